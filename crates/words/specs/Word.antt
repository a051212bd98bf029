-- A word of a graph: n symbols below 32 that satisfy all checks. Davey and MacKay 1998, the parity-check definition; document 01, "Words of the third demand".
-- Assumes nothing.
use Rattle.std.specs.Prelude.{◌≡◌, Bool, not, ℕ, ◌<◌, eqb, length}
use mathlib.Core.List.{List, foldl}
use Rattle.std.specs.Int.Bits.{bit_xor}
use Rattle.lists.specs.AnyBelow.{any_below}
use Rattle.lists.specs.Entry.{nth}
use Rattle.field.specs.Field.{product}
use Rattle.elimination.specs.Graph.{Edge, Graph, check_count, check}

-- "the field sum of coefficient times symbol over its edges"
abbrev pub sum_turn : List ℕ → ℕ → Edge → ℕ
sum_turn x sum e = bit_xor sum (product e.1 (nth x e.0))

unfoldable pub check_sum : List Edge → List ℕ → ℕ
check_sum es x = foldl (sum_turn x) 0 es

pub record Symbols (n : ℕ) (x : List ℕ) : Type 0 where
  pub long : length x ≡ n
  pub small : (j : ℕ) → j < n → nth x j < 32

-- "words are n symbols below 32 that satisfy all", each check "where the field sum .. is 0, with no edges always"
pub record Word (g : Graph) (x : List ℕ) : Type 0 where
  pub symbols : Symbols g.n x
  pub satisfied : (c : ℕ) → c < check_count g → check_sum (check g c) x ≡ 0

-- the last of these as a test
unfoldable pub all_satisfied : Graph → List ℕ → Bool
all_satisfied g x = not (any_below (check_count g) (λ c. not (eqb (check_sum (check g c) x) 0)))
