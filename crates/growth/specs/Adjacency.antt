-- A graph while it grows: each check's variables and each variable's checks, in the order of their edges. nb.rs, `chk` and `var` of `NbCode::new`.
-- Assumes nothing.
use Rattle.std.specs.Prelude.{ℕ, List, [], ◌∷◌, ◌++◌, eqb, length}
use Rattle.lists.specs.Choice.{pick}

pub record Adjacency : Type 0 where
  pub chk : ℕ → List ℕ
  pub var : ℕ → List ℕ

-- how many variables check c has
abbrev pub load : Adjacency → ℕ → ℕ
load g c = length (g.chk c)

-- x at the end of list r
unfoldable pub pushed : (ℕ → List ℕ) → ℕ → ℕ → ℕ → List ℕ
pushed lists r x q = pick (eqb q r) (lists r ++ x ∷ []) (lists q)

-- with an edge of check c and variable v
abbrev pub joined : Adjacency → ℕ → ℕ → Adjacency
joined g c v = record { chk = pushed g.chk c v; var = pushed g.var v c }

-- no edges
abbrev pub empty : Adjacency
empty = record { chk = λ c. []; var = λ u. [] }
