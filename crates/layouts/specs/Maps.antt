-- The four maps of a frame's 260 padded bits and 52 packed symbols. Spread sends padded bit i to 53·i mod 260. nb.rs, `BitMap` and `Tables::new`.
-- Assumes nothing.
use Rattle.std.specs.Prelude.{ℕ, ◌*◌, ◌%◌, List}
use Rattle.lists.specs.Values.{values}
use Rattle.layouts.specs.declared.BitMap.{BitMap}
use Rattle.layouts.specs.declared.BitMap.TheVariants.{Plain, Heavy, Spread, SpreadHeavy}
use Rattle.layouts.specs.Heavy.{taken_by}
use Rattle.layouts.specs.Layout.{Layout, bit_of}
use Rattle.layouts.specs.Slots.{strong, heavy}
use Rattle.layouts.specs.SpreadHeavy.{spread_over}

-- the packed position of each padded bit
unfoldable pub pos_of : BitMap → List ℕ → List ℕ
pos_of Plain degrees = values 260 (λ i. i)
pos_of Heavy degrees = values 260 (λ i. i)
pos_of Spread degrees = values 260 (λ i. 53 * i % 260)
pos_of SpreadHeavy degrees = spread_over (heavy degrees)

-- the information slot of each packed symbol
unfoldable pub slot_of : BitMap → List ℕ → List ℕ
slot_of Plain degrees = values 52 (λ j. j)
slot_of Heavy degrees = taken_by (strong degrees)
slot_of Spread degrees = values 52 (λ j. j)
slot_of SpreadHeavy degrees = values 52 (λ j. j)

-- the layout of a map, by the degrees of the 52 information slots
unfoldable pub layout_of : BitMap → List ℕ → Layout
layout_of map degrees = record { pos = pos_of map degrees; bit = bit_of (pos_of map degrees); slot = slot_of map degrees }
