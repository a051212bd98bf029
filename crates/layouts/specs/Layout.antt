-- A layout as a value, the tables of the source's `Tables`: where each of a frame's 260 padded bits stands among the packed ones, which bit stands at each place, and the
-- information slot of each packed symbol. Ours: what makes three lists a layout, the invariant of the type `Tables`.
-- Assumes nothing.
use Rattle.std.specs.Prelude.{◌≡◌, ℕ, List, replicate}
use Rattle.lists.specs.EachOnce.{EachOnce}
use Rattle.lists.specs.Entry.{nth}
use Rattle.lists.specs.Placed.{placed}

pub record Layout : Type 0 where
  -- the packed position of each padded bit
  pub pos : List ℕ
  -- the padded bit at each packed position
  pub bit : List ℕ
  -- the information slot of each packed symbol
  pub slot : List ℕ

unfoldable pub bit_of : List ℕ → List ℕ
bit_of pos = placed 260 (nth pos) (λ i. i) (replicate 260 0)

-- each position once, and each slot once
pub record IsLayout (t : Layout) : Type 0 where
  pub positions : EachOnce 260 (nth t.pos)
  pub inverse : t.bit ≡ bit_of t.pos
  pub slots : EachOnce 52 (nth t.slot)
