-- A frame's 256 bits as the 52 symbols of the information slots, in a layout, and back. nb.rs, `encode_bits_at` before `encode`, and `decode_bits_prior_at` after `info_of`.
-- Assumes nothing.
use Rattle.std.specs.Prelude.{ℕ, ◌%◌, Bool, not, List, eqb, replicate, take, drop}
use Rattle.std.specs.List.{list_any}
use Rattle.lists.specs.Entry.{nth}
use Rattle.lists.specs.Placed.{placed}
use Rattle.lists.specs.Values.{values}
use Rattle.layouts.specs.Layout.{Layout}
use Rattle.layouts.specs.Packing.{bits_to_syms, syms_to_bits}

-- the packed bits: of each bit the lowest, and 0 at the padding's places
unfoldable pub packed : Layout → List ℕ → List ℕ
packed t bits = placed 256 (nth t.pos) (λ i. nth bits i % 2) (replicate 260 0)

-- the symbols of the slots
unfoldable pub symbols_of : Layout → List ℕ → List ℕ
symbols_of t bits = placed 52 (nth t.slot) (nth (bits_to_syms (packed t bits))) (replicate 52 0)

-- back: the packed bits of the slots' symbols, and the padded bits
unfoldable pub unpacked : Layout → List ℕ → List ℕ
unpacked t syms = syms_to_bits (values 52 (λ j. nth syms (nth t.slot j)))

unfoldable pub padded_bits : Layout → List ℕ → List ℕ
padded_bits t syms = values 260 (λ i. nth (unpacked t syms) (nth t.pos i))

-- the frame's own bits of 260 padded ones
abbrev pub own_bits : List ℕ → List ℕ
own_bits padded = take 256 padded

-- one of the four padding bits is not 0
unfoldable pub padding_used : List ℕ → Bool
padding_used padded = list_any (λ bit. not (eqb bit 0)) (drop 256 padded)
