-- What is promised of a frame's tones, of a code and a map: they are a word from which the bits are read back, and a word with 0 past the slots and in the padding is the tones of
-- the bits read from it. And the same of a rate and a layout.
-- Assumes nothing.
use Rattle.std.specs.Prelude.{ℕ, ◌%◌, ◌<◌, ◌≤◌, ◌≡◌, ◌↔◌, false, List}
use Rattle.lists.specs.Entry.{nth}
use Rattle.lists.specs.Values.{values}
use Rattle.lent.specs.Held.{Held}
use Rattle.lent.specs.LentCode.{graph_of}
use Rattle.words.specs.InfoOf.{own_symbols}
use Rattle.words.specs.K.{k_of}
use Rattle.words.specs.Word.{Word}
use Rattle.layouts.specs.declared.BitMap.{BitMap}
use Rattle.layouts.specs.Symbols.{symbols_of, own_bits, padding_used}
use Rattle.rates.specs.declared.Rate.{Rate}
use Rattle.rates.specs.RateCode.{rate_code, rate_graph}
use Rattle.frames.specs.declared.layout.FrameLayout.{FrameLayout}
use Rattle.frames.specs.SlotSymbols.{layout_in, slot_symbols, word_bits}
use Rattle.frames.specs.Tones.{tones_in, tones_of}

module _ (l : Held) (map : BitMap) where
  -- an information symbol past the 52nd is 0
  abbrev pub PastSlots : List ℕ → Type 0
  PastSlots x = (j : ℕ) → 52 ≤ j → j < k_of l → nth (own_symbols l x) j ≡ 0

  pub record Tones : Type 0 where
    -- the tones of any bits are a word whose information symbols past the 52nd are 0
    pub word : (bits : List ℕ) → Word (graph_of l) (tones_in l map bits)
    pub past : (bits : List ℕ) → PastSlots (tones_in l map bits)
    -- the bits are read back from them: of each the lowest, and padding bits that are 0
    pub symbols : (bits : List ℕ) → slot_symbols l (tones_in l map bits) ≡ symbols_of (layout_in l map) bits
    pub padding : (bits : List ℕ) → padding_used (word_bits l map (tones_in l map bits)) ≡ false
    pub bits : (bits : List ℕ) → own_bits (word_bits l map (tones_in l map bits)) ≡ values 256 (λ i. nth bits i % 2)
    -- one notice, one word: two have the same tones exactly where their lowest bits are the same
    pub one_word : (a b : List ℕ) → (tones_in l map a ≡ tones_in l map b) ↔ ((i : ℕ) → i < 256 → nth a i % 2 ≡ nth b i % 2)
    -- a word whose information symbols past the 52nd and whose padding bits are 0 is the tones of the bits that are read from it
    pub again : (x : List ℕ) → Word (graph_of l) x → PastSlots x → padding_used (word_bits l map x) ≡ false → tones_in l map (own_bits (word_bits l map x)) ≡ x

-- ---- in the words of the calls: the graph of a rate is the same for both information sets

module _ (r : Rate) (layout : FrameLayout) where
  pub record FrameTones : Type 0 where
    pub word : (bits : List ℕ) → Word (rate_graph r) (tones_of r layout bits)
    pub past : (bits : List ℕ) → PastSlots (rate_code r layout.set) layout.map (tones_of r layout bits)
    pub padding : (bits : List ℕ) → padding_used (word_bits (rate_code r layout.set) layout.map (tones_of r layout bits)) ≡ false
    pub bits : (bits : List ℕ) → own_bits (word_bits (rate_code r layout.set) layout.map (tones_of r layout bits)) ≡ values 256 (λ i. nth bits i % 2)
    pub one_word : (a b : List ℕ) → (tones_of r layout a ≡ tones_of r layout b) ↔ ((i : ℕ) → i < 256 → nth a i % 2 ≡ nth b i % 2)
    pub again : (x : List ℕ) → Word (rate_graph r) x → PastSlots (rate_code r layout.set) layout.map x → padding_used (word_bits (rate_code r layout.set) layout.map x) ≡ false
        → tones_of r layout (own_bits (word_bits (rate_code r layout.set) layout.map x)) ≡ x
