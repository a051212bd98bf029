-- What is promised of layouts: the tables are permutations, and a frame's bits go into the slots' symbols and back.
-- Assumes nothing.
use Rattle.std.specs.Prelude.{ℕ, ◌*◌, ◌%◌, ◌<◌, ◌≡◌, ◌↔◌, false, List, [], ◌∷◌, length}
use Rattle.lists.specs.EachOnce.{EachOnce}
use Rattle.lists.specs.Entry.{nth}
use Rattle.lists.specs.Values.{values}
use Rattle.layouts.specs.declared.BitMap.{BitMap}
use Rattle.layouts.specs.declared.BitMap.TheVariants.{Spread}
use Rattle.layouts.specs.Heavy.{touched}
use Rattle.layouts.specs.Layout.{Layout, IsLayout}
use Rattle.layouts.specs.Maps.{layout_of}
use Rattle.layouts.specs.Packing.{bits_to_syms, syms_to_bits}
use Rattle.layouts.specs.Symbols.{symbols_of, padded_bits, own_bits, padding_used}

pub record Permutes (t : Layout) : Type 0 where
  pub positions : EachOnce 260 (nth t.pos)
  pub bits : EachOnce 260 (nth t.bit)
  pub bit_pos : (i : ℕ) → i < 260 → nth t.bit (nth t.pos i) ≡ i
  pub pos_bit : (p : ℕ) → p < 260 → nth t.pos (nth t.bit p) ≡ p
  pub slots : EachOnce 52 (nth t.slot)

pub record Layouts (t : Layout) : Type 0 where
  pub held : IsLayout t
  pub permutes : Permutes t
  -- any bits: 52 symbols whose padding bits are 0, and back to the bits' lowest bits
  pub long : (bits : List ℕ) → length (symbols_of t bits) ≡ 52
  pub small : (bits : List ℕ) (j : ℕ) → j < 52 → nth (symbols_of t bits) j < 32
  pub padded : (bits : List ℕ) → padding_used (padded_bits t (symbols_of t bits)) ≡ false
  pub there_and_back : (bits : List ℕ) → own_bits (padded_bits t (symbols_of t bits)) ≡ values 256 (λ i. nth bits i % 2)
  -- so two frames have the same symbols exactly where their lowest bits are the same
  pub one_frame : (a b : List ℕ) → (symbols_of t a ≡ symbols_of t b) ↔ ((i : ℕ) → i < 256 → nth a i % 2 ≡ nth b i % 2)
  -- 52 symbols whose padding bits are 0: back to 256 bits that give the same symbols
  pub back_and_there : (u : List ℕ) → length u ≡ 52 → ((j : ℕ) → j < 52 → nth u j < 32) → padding_used (padded_bits t u) ≡ false
      → symbols_of t (own_bits (padded_bits t u)) ≡ u

-- entries that are known from running the source (docs/DIFFERENCES.md)
pub record Examples : Type 0 where
  -- Spread: 1 to 53, 255 to 255, 256 to 48
  pub spread : (degrees : List ℕ) → let pos = (layout_of Spread degrees).pos in (nth pos 1 ≡ 53) × ((nth pos 255 ≡ 255) × (nth pos 256 ≡ 48))
  -- the variable bits touch 22 symbols, in order 19, 20, 21, 22, 24, 25, 44 to 51, 11 to 18
  pub heavy : touched ≡ 19 ∷ 20 ∷ 21 ∷ 22 ∷ 24 ∷ 25 ∷ 44 ∷ 45 ∷ 46 ∷ 47 ∷ 48 ∷ 49 ∷ 50 ∷ 51 ∷ 11 ∷ 12 ∷ 13 ∷ 14 ∷ 15 ∷ 16 ∷ 17 ∷ 18 ∷ []

-- packing alone, of any number of whole symbols: there and back
pub record Packs : Type 0 where
  pub bits : (b : List ℕ) (m : ℕ) → length b ≡ 5 * m → syms_to_bits (bits_to_syms b) ≡ values (length b) (λ p. nth b p % 2)
  pub symbols : (s : List ℕ) → ((j : ℕ) → j < length s → nth s j < 32) → bits_to_syms (syms_to_bits s) ≡ s

pub record Promised : Type 0 where
  -- of every map, whatever the degrees of the slots
  pub maps : (map : BitMap) (degrees : List ℕ) → Layouts (layout_of map degrees)
  -- of every value of the type `Tables`, whose invariant this is
  pub tables : (t : Layout) → IsLayout t → Layouts t
  pub packs : Packs
  pub examples : Examples
