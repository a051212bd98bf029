-- What elimination may be run on: parts of the right lengths with the edges of a graph, and an order of its columns. Ours; no public call's contract cites it.
-- Assumes nothing.
use Rattle.std.specs.Prelude.{ℕ, ◌+◌, ◌<◌, ◌≤◌, ◌≡◌, List, length}
use Rattle.lists.specs.Entry.{nth}

-- the parts of a graph of m checks: row starts that rise, and variables below 256
pub record Graphed (m : ℕ) (var coef row : List ℕ) : Type 0 where
  pub m_small : m ≤ 256
  pub var_long : length var ≡ 512
  pub coef_long : length coef ≡ 512
  pub row_long : length row ≡ 257
  pub rise : (c : ℕ) → c < m → nth row c ≤ nth row (c + 1)
  pub end : nth row m ≤ 512
  pub vars : (e : ℕ) → e < nth row m → nth var e < 256

-- of n variables, with coefficients of the field, and an order of its columns
pub record Encodable (n m : ℕ) (var coef row order : List ℕ) : Type 0 where
  pub graph : Graphed m var coef row
  pub n_small : n ≤ 256
  pub vars : (e : ℕ) → e < nth row m → nth var e < n
  pub coefs : (e : ℕ) → e < nth row m → nth coef e < 32
  pub order_long : length order ≡ 256
  pub columns : (t : ℕ) → t < n → nth order t < n
