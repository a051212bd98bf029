-- What rounds may be made on: a Tanner graph that fits its parts. Ours; it is the invariant of `TannerGraph`, and no public call's contract cites it.
-- Assumes nothing.
use Rattle.std.specs.Prelude.{ℕ, ◌+◌, ◌<◌, ◌≤◌, ◌≡◌, List, length}
use Rattle.lists.specs.Entry.{nth}
use Rattle.rounds.specs.Tanner.{Tanner}

-- checks of edges with coefficients
pub record Rows (m : ℕ) (coef row : List ℕ) : Type 0 where
  pub small : m ≤ 256
  pub coef_long : length coef ≡ 512
  pub row_long : length row ≡ 257
  pub first : nth row 0 ≡ 0
  pub rise : (c : ℕ) → c < m → nth row c ≤ nth row (c + 1)
  pub last : nth row m ≤ 512
  pub coefs : (e : ℕ) → e < nth row m → nth coef e < 32

-- with 32 edges each at most
abbrev pub Narrow : ℕ → List ℕ → Type 0
Narrow m row = (c : ℕ) → c < m → nth row (c + 1) ≤ nth row c + 32

-- variables' lists of places
pub record Columns (n : ℕ) (start col : List ℕ) : Type 0 where
  pub small : n ≤ 256
  pub start_long : length start ≡ 257
  pub col_long : length col ≡ 512
  pub rise : (v : ℕ) → v < n → nth start v ≤ nth start (v + 1)
  pub last : nth start n ≤ 512
  pub places : (i : ℕ) → i < nth start n → nth col i < nth start n

-- a variable for each edge
pub record Ends (n edges : ℕ) (var : List ℕ) : Type 0 where
  pub few : edges ≤ 512
  pub long : length var ≡ 512
  pub vars : (e : ℕ) → e < edges → nth var e < n

pub record Ready (t : Tanner) : Type 0 where
  pub rows : Rows t.m t.coef t.row
  pub columns : Columns t.n t.start t.col
  pub ends : Ends t.n t.edges t.var
  pub by_check : nth t.row t.m ≡ t.edges
  pub by_variable : nth t.start t.n ≡ t.edges
