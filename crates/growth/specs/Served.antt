-- What holds of a growing graph on the way, so that its lists stay within their rows. Ours; no public call's contract cites it.
-- Assumes nothing.
use Rattle.std.specs.Prelude.{ℕ, ◌+◌, ◌<◌, ◌≤◌, ◌≡◌, Bool, true, false, [], eqb, ltb, length}
use Rattle.lists.specs.Choice.{pick}
use Rattle.lists.specs.Keep.{keep_below}
use Rattle.lists.specs.Times.{times}
use Rattle.growth.specs.Adjacency.{Adjacency, load}

-- the two sides agree, no edge stands twice, and each has a check below m and a variable below n
pub record Good (m n : ℕ) (g : Adjacency) : Type 0 where
  pub both : (c u : ℕ) → times u (g.chk c) ≡ times c (g.var u)
  pub once : (c u : ℕ) → times c (g.var u) ≤ 1
  pub inside : (c u : ℕ) → 0 < times c (g.var u) → (c < m) × (u < n)

-- v has k edges, and a check has at most t variables besides v
pub record Serving (m n v t k : ℕ) (g : Adjacency) : Type 0 where
  pub good : Good m n g
  pub own : length (g.var v) ≡ k
  pub light : (c : ℕ) → load g c ≤ t + times c (g.var v)

-- whether u comes before v in the order by degree and position, v having degree d
unfoldable pub sooner : (ℕ → ℕ) → ℕ → ℕ → ℕ → Bool
sooner degs d v u = pick (ltb (degs u) d) true (pick (eqb (degs u) d) (ltb u v) false)

-- those of the n variables that come before v of degree d have their edges, the others none, and a check has at most one edge of each of the former
pub record Begun (m n : ℕ) (degs : ℕ → ℕ) (d v : ℕ) (g : Adjacency) : Type 0 where
  pub good : Good m n g
  pub full : (u : ℕ) → u < n → sooner degs d v u ≡ true → length (g.var u) ≡ degs u
  pub idle : (u : ℕ) → sooner degs d v u ≡ false → g.var u ≡ []
  pub light : (c : ℕ) → load g c ≤ length (keep_below (sooner degs d v) n)
