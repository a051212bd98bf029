-- A frame's decoding on a sound code, by the parts that it is lent: the positions of its symbols, its metrics with the priors, and a word's first 52 information symbols.
-- Assumes nothing.
use Prim.Native.Nat.{ℕ, ◌+◌, ◌-◌, ◌*◌, ◌<◌, ◌≤◌}
use mathlib.Core.Path.{◌≡◌, ap, ◌∙◌}
use mathlib.Core.List.{List}
use native.Mathlib.Omega.{arith}
use lib.Ieee.{Float}
use lib.ListN.{length, take, replicate, length-append}
use Rattle.std.proofs.lemmas.List.{take-append-le}
use Rattle.lists.specs.Entry.{nth}
use Rattle.lists.proofs.Values.{values-length}
use Rattle.calls.specs.Parts.{padded}
use Rattle.lent.specs.Held.{Held}
use Rattle.lent.specs.LentCode.{graph_of}
use Rattle.lent.specs.Sound.{IsSound}
use Rattle.words.specs.Encoding.{information_of}
use Rattle.words.specs.InfoOf.{own_symbols, own_part}
use Rattle.words.specs.K.{k_of}
use Rattle.words.proofs.Encodings.{info_length}
use Rattle.words.proofs.LentWords.{positions-length, positions_at}
use Rattle.layouts.specs.declared.BitMap.{BitMap}
use Rattle.layouts.specs.Layout.{Layout, IsLayout}
use Rattle.layouts.specs.Symbols.{unpacked, padded_bits}
use Rattle.priors.specs.WithPriors.{with_priors}
use Rattle.priors.proofs.WithBits.{with_priors_ext, with_priors-length}
use Rattle.frames.specs.Found.{frame_metrics}
use Rattle.frames.proofs.Reading.{layout_laws_in}
use Rattle.frames.proofs.Slots.{slot_inside}
use Rattle.frames.specs.SlotSymbols.{layout_in, slot_symbols}

-- ---- a word's symbols

module _ (l : Held) (k : 52 ≤ k_of l) where
  own-long : (word : List ℕ) → 52 ≤ length (own_symbols l word)
  own-long word = omega (arith, k, info_length (graph_of l) l.parts.order word)

  -- the symbols in the slots, from the part that holds all of a word's information symbols
  pub slots_front : {syms : List ℕ} (word : List ℕ) → syms ≡ own_part l word → take 52 syms ≡ slot_symbols l word
  unfolding padded slot_symbols
  slots_front word e =
      let own = own_symbols l word in
      ap (take 52) e ∙ take-append-le 52 own (replicate (l.code.n - length own) 0) (own-long word)

  pub padded_is : {padded syms : List ℕ} (t : Layout) (word : List ℕ) → syms ≡ own_part l word → padded ≡ padded_bits t (take 52 syms) → padded ≡ padded_bits t (slot_symbols l word)
  padded_is t word e h = h ∙ ap (padded_bits t) (slots_front word e)

  pub slots_room : {syms : List ℕ} (word : List ℕ) → syms ≡ own_part l word → 52 ≤ length syms
  unfolding padded
  slots_room word e =
      let own = own_symbols l word in
      let zeros : List ℕ = replicate (l.code.n - length own) 0 in
      omega (arith, ap length e, own-long word, length-append own zeros)

-- padded bits are 260
pub padded_long : (t : Layout) (syms : List ℕ) → length (padded_bits t syms) ≡ 260
unfolding padded_bits
padded_long t syms = values-length (λ i. nth (unpacked t syms) (nth t.pos i)) 260

-- ---- the metrics

module _ (l : Held) (w : IsSound l.code l.parts) (k : 52 ≤ k_of l) where
  enough : 52 ≤ l.code.n - l.code.rank
  enough = omega (arith, positions-length l.code l.parts w, k)

  pub slot_at : (j : ℕ) → j < 52 → nth l.parts.info j ≡ nth (information_of (graph_of l) l.parts.order) j
  slot_at j h = positions_at l.code l.parts w j (omega (arith, enough))

  module _ (t : Layout) (b : IsLayout t) where
    slot_low : (j : ℕ) → j < 52 → nth t.slot j < 52
    slot_low j h = b.slots.inside j h

    pub places_inside : (count : ℕ) → count ≡ l.code.n * 32 → (j : ℕ) → j < 52 → nth l.parts.info (nth t.slot j) * 32 + 32 ≤ count
    places_inside count e j h = omega (arith, e, slot_inside l w k (nth t.slot j) (slot_low j h))

    pub metrics_are : (map : BitMap) → t ≡ layout_in l map → (metrics prior : List Float)
        → with_priors (nth t.bit) (λ j. nth l.parts.info (nth t.slot j)) prior metrics ≡ frame_metrics l map metrics prior
    unfolding frame_metrics
    metrics_are map e metrics prior =
        with_priors_ext (nth t.bit) (λ j. nth l.parts.info (nth t.slot j)) (λ j. nth (information_of (graph_of l) l.parts.order) (nth t.slot j)) prior metrics (λ j h. slot_at (nth t.slot j) (slot_low j h))
        ∙ ap (λ (u : Layout). with_priors (nth u.bit) (λ j. nth (information_of (graph_of l) l.parts.order) (nth u.slot j)) prior metrics) e

  pub metrics-length : (map : BitMap) (metrics prior : List Float) → length metrics ≡ l.code.n * 32 → length (frame_metrics l map metrics prior) ≡ l.code.n * 32
  unfolding frame_metrics
  metrics-length map metrics prior e =
      let t : Layout = layout_in l map in
      let b = (layout_laws_in l map).held in
      with_priors-length (nth t.bit) (λ j. nth (information_of (graph_of l) l.parts.order) (nth t.slot j)) prior metrics
      (λ j h. omega (arith, slot_at (nth t.slot j) (slot_low t b j h), places_inside t b (length metrics) e j h))
      ∙ e
