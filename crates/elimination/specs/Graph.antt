-- A parity-check graph: n variables, and for each check its edges, each a variable with its coefficient. Davey and MacKay 1998; nb.rs, `NbCode`'s `edges` and `row`.
-- Assumes nothing.
use Rattle.std.specs.Prelude.{ℕ, List, [], length, get_or}
use Rattle.lists.specs.Chain.{chain}

-- a variable and its coefficient
abbrev pub Edge : Type 0
Edge = ℕ × ℕ

pub record Graph : Type 0 where
  pub n : ℕ
  pub checks : List (List Edge)

abbrev pub check_count : Graph → ℕ
check_count g = length g.checks

-- the edges of check c
abbrev pub check : Graph → ℕ → List Edge
check g c = get_or g.checks c []

-- all edges, grouped by check
unfoldable pub edges : Graph → List Edge
edges g = chain (check_count g) (check g)
