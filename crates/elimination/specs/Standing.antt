-- How a matrix and a state of the elimination stand in parts. Ours; cited by the contracts of this crate's own functions only, by no public call.
-- Assumes nothing.
use Rattle.std.specs.Prelude.{◌≡◌, List, ℕ, ◌+◌, ◌*◌, ◌<◌, ltb, Option, Some, None}
use Rattle.std.specs.Int.Bits.{bit_xor}
use Rattle.lists.specs.Choice.{pick}
use Rattle.lists.specs.Entry.{nth}
use Rattle.lists.specs.Laid.{laid}
use Rattle.lists.specs.Values.{values}
use Rattle.field.specs.Field.{product}
use Rattle.elimination.specs.Matrix.{Matrix}
use Rattle.elimination.specs.Elimination.{State}

-- a part holds a matrix of m rows and n columns, with rows of 256: entry (i, j) at 256 i + j
pub record Holds (m n : ℕ) (g : Matrix) (h : List ℕ) : Type 0 where
  pub same : (i j : ℕ) → i < m → j < n → nth h (i * 256 + j) ≡ g i j

-- f times another row added to a row of n entries
abbrev pub plus : ℕ → ℕ → (ℕ → ℕ) → List ℕ → List ℕ
plus n f other row = values n (λ j. bit_xor (nth row j) (product f (other j)))

-- a row that a search from r on gives, if it is one of the m rows
abbrev pub below : ℕ → ℕ → Option ℕ
below m p = pick (ltb p m) (Some p) None

-- a state of rank r: its matrix in h, its pivots over the front of `parity`, which was `part` before
pub record Stands (m n : ℕ) (s : State) (part h parity : List ℕ) (r : ℕ) : Type 0 where
  pub holds : Holds m n s.matrix h
  pub rank : r ≡ s.rank
  pub pivots : parity ≡ laid (values r s.pivot) part
