-- The promise of layouts holds: of every map and every list of degrees, and of every three lists that are a layout.
-- Assumes nothing.
use Prim.Native.Nat.{ℕ}
use mathlib.Core.Path.{ap, ◌∙◌}
use mathlib.Core.List.{List}
use lib.ListN.{replicate, length-replicate}
use Rattle.lists.specs.Entry.{nth}
use Rattle.lists.proofs.PlacedOnce.{placed_once, inverse_after, after_inverse}
use Rattle.layouts.specs.declared.BitMap.{BitMap}
use Rattle.layouts.specs.Layout.{Layout, IsLayout, bit_of}
use Rattle.layouts.specs.Maps.{layout_of}
use Rattle.layouts.specs.Promise.{Permutes, Layouts, Promised}
use Rattle.layouts.proofs.Examples.{examples}
use Rattle.layouts.proofs.Digits.{bits_syms_bits, syms_bits_syms}
use Rattle.layouts.proofs.Layouts.{layout_held}
use Rattle.layouts.proofs.ThereAndBack.{symbols_length, symbols_small, symbols_same, bits_back, bits_same, bits_padded, symbols_back}

module _ (t : Layout) (w : IsLayout t) where
  permutes : Permutes t
  unfolding bit_of
  permutes = record {
    positions = w.positions;
    bits = rw w.inverse (placed_once 260 (nth t.pos) (replicate 260 0) (length-replicate {A = ℕ} 260 0) w.positions (λ i. i) (record { inside = λ i h. h; distinct = λ i j h l q. q }));
    bit_pos = λ i h. ap (λ (b : List ℕ). nth b (nth t.pos i)) w.inverse ∙ inverse_after 260 (nth t.pos) (replicate 260 0) (length-replicate {A = ℕ} 260 0) w.positions i h;
    pos_bit = λ p h. ap (λ (b : List ℕ). nth t.pos (nth b p)) w.inverse ∙ after_inverse 260 (nth t.pos) (replicate 260 0) (length-replicate {A = ℕ} 260 0) w.positions p h;
    slots = w.slots;
  }

  -- of any layout
  pub layout_laws : Layouts t
  layout_laws = record {
    held = w;
    permutes = permutes;
    long = symbols_length t w;
    small = symbols_small t w;
    padded = bits_padded t w;
    there_and_back = bits_back t w;
    one_frame = λ a b. (bits_same t w a b, symbols_same t w a b);
    back_and_there = symbols_back t w;
  }

pub layouts : (map : BitMap) (degrees : List ℕ) → Layouts (layout_of map degrees)
layouts map degrees = layout_laws (layout_of map degrees) (layout_held map degrees)

pub promise : Promised
promise = record { maps = layouts; tables = layout_laws; packs = record { bits = bits_syms_bits; symbols = syms_bits_syms }; examples = examples }
