-- The tones of frames, of every code that is not refused and has 52 information positions or more, and every map; and so of every rate and layout.
-- Assumes nothing.
use Prim.Native.Nat.{ℕ, ◌%◌, ◌<◌, ◌≤◌}
use mathlib.Core.Path.{◌≡◌, sym, ap, subst, ◌∙◌}
use mathlib.Core.Logic.{◌↔◌}
use mathlib.Core.Bool.{false}
use mathlib.Core.List.{List}
use Rattle.lists.specs.Entry.{nth}
use Rattle.elimination.specs.Graph.{Graph}
use Rattle.lent.specs.Held.{Held}
use Rattle.lent.specs.LentCode.{graph_of, NotRefused}
use Rattle.words.specs.Encode.{encoded}
use Rattle.words.specs.K.{k_of}
use Rattle.words.specs.Word.{Word}
use Rattle.words.specs.Promise.{Words}
use Rattle.words.proofs.Theorem.{words}
use Rattle.layouts.specs.declared.BitMap.{BitMap}
use Rattle.layouts.specs.Promise.{Layouts}
use Rattle.layouts.specs.Symbols.{symbols_of, padded_bits, own_bits, padding_used}
use Rattle.rates.specs.declared.Rate.{Rate}
use Rattle.rates.specs.Rate.{IsRate}
use Rattle.rates.specs.RateCode.{rate_code}
use Rattle.rates.proofs.Theorem.{rate_well}
use Rattle.frames.specs.FrameTones.{PastSlots, Tones, FrameTones}
use Rattle.frames.specs.SlotSymbols.{layout_in, slot_symbols, word_bits}
use Rattle.frames.specs.declared.layout.FrameLayout.{FrameLayout}
use Rattle.frames.specs.Tones.{tones_in, tones_of}
use Rattle.frames.proofs.Reading.{layout_laws_in, slots-length, slots_small, past_slots, slots_own, slots_encoded}

module _ (l : Held) (map : BitMap) (w : Words l.code l.parts) (enough : 52 ≤ k_of l) where
  t : Layouts (layout_in l map)
  t = layout_laws_in l map

  tones_word : (bits : List ℕ) → Word (graph_of l) (tones_in l map bits)
  unfolding tones_in
  tones_word bits = w.encoded (symbols_of (layout_in l map) bits)

  tones_past : (bits : List ℕ) → PastSlots l map (tones_in l map bits)
  unfolding tones_in
  tones_past bits j h b = past_slots l w enough (symbols_of (layout_in l map) bits) (t.long bits) j h

  tones_symbols : (bits : List ℕ) → slot_symbols l (tones_in l map bits) ≡ symbols_of (layout_in l map) bits
  unfolding tones_in
  tones_symbols bits = slots_own l w enough (symbols_of (layout_in l map) bits) (t.long bits) (t.small bits)

  tones_bits : (bits : List ℕ) → word_bits l map (tones_in l map bits) ≡ padded_bits (layout_in l map) (symbols_of (layout_in l map) bits)
  unfolding word_bits
  tones_bits bits = ap (padded_bits (layout_in l map)) (tones_symbols bits)

  one : (a b : List ℕ) → (tones_in l map a ≡ tones_in l map b) ↔ ((i : ℕ) → i < 256 → nth a i % 2 ≡ nth b i % 2)
  unfolding tones_in
  one a b = (
    λ e. (t.one_frame a b).0 (sym (tones_symbols a) ∙ ap (slot_symbols l) e ∙ tones_symbols b),
    λ e. ap (encoded l) ((t.one_frame a b).1 e),
  )

  word_again : (x : List ℕ) → Word (graph_of l) x → PastSlots l map x → padding_used (word_bits l map x) ≡ false → tones_in l map (own_bits (word_bits l map x)) ≡ x
  unfolding tones_in word_bits
  word_again x y past pad =
      ap (encoded l) (t.back_and_there (slot_symbols l x) (slots-length l w enough x) (slots_small l w enough x y) pad) ∙ slots_encoded l w enough x y past

  pub word_tones : Tones l map
  word_tones = record {
    word = tones_word;
    past = tones_past;
    symbols = tones_symbols;
    padding = λ bits. ap padding_used (tones_bits bits) ∙ t.padded bits;
    bits = λ bits. ap own_bits (tones_bits bits) ∙ t.there_and_back bits;
    one_word = one;
    again = word_again;
  }

-- of any code
pub tones : (l : Held) (map : BitMap) → NotRefused l.code l.parts → 52 ≤ k_of l → Tones l map
tones l map r enough = word_tones l map (words l.code l.parts r) enough

-- ---- of every rate and layout, in the words of the calls: the graph of a rate is the same for both information sets

module _ (r : Rate) (layout : FrameLayout) where
  abbrev code : Held
  code = rate_code r layout.set

  pub frame_tones : IsRate r → FrameTones r layout
  unfolding tones_of
  frame_tones ok =
      let s = (rate_well r ok).sets layout.set in
      let t = tones code layout.map s.not_refused s.enough in
      record {
        word = λ bits. subst (λ (g : Graph). Word g (tones_in code layout.map bits)) s.graph (t.word bits);
        past = t.past;
        padding = t.padding;
        bits = t.bits;
        one_word = t.one_word;
        again = λ x y. t.again x (subst (λ (g : Graph). Word g x) (sym s.graph) y);
      }
