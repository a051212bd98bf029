-- The likeliest value of a vector and the second likeliest, and the margin between them. nb.rs, `list_decode`; document 01, "ln is dropped: the quotient itself is
-- the margin".
-- Assumes nothing.
use Rattle.std.specs.Prelude.{ℕ, ◌+◌, Float}
use Rattle.std.specs.Float.{binary32}
use Rattle.std.specs.Float.Ieee.{div, lt}
use Rattle.lists.specs.Choice.{pick}
use Rattle.lists.specs.Iter.{iter}
use Rattle.vectors.specs.declared.likeliest.Two.{Two}
use Rattle.vectors.specs.Multiplied.{raised}
use Rattle.vectors.specs.Vector.{Vector, at}

abbrev pub two : ℕ → ℕ → Two
two first second = record { first = first; second = second }

-- value x beside the two of the values before it
abbrev pub two_turn : Vector → ℕ → Two → Two
two_turn p x b = pick (lt (at p b.first) (at p x)) (two x b.first) (pick (lt (at p b.second) (at p x)) (two b.first x) b)

-- from 0 and 1, by the values 2 to 31
unfoldable pub likeliest_two : Vector → Two
likeliest_two p = iter 30 (λ i. two_turn p (i + 2)) (pick (lt (at p 0) (at p 1)) (two 1 0) (two 0 1))

-- "the quotient", each of the two raised to 1e-30
unfoldable pub margin : Vector → Float
margin p = let b = likeliest_two p in div binary32 (raised (at p b.first)) (raised (at p b.second))
