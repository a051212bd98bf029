-- The column order of `new` has each position once.
-- Assumes nothing.
use Prim.Native.Nat.{ℕ, ◌+◌, ◌-◌, ◌<◌}
use mathlib.Core.Path.{◌≡◌}
use native.Mathlib.Omega.{arith}
use lib.ListN.{length}
use Rattle.lists.specs.Entry.{nth}
use Rattle.lists.specs.EachOnce.{EachOnce}
use Rattle.lists.proofs.Values.{values-length, values_at}
use Rattle.graph.specs.Descending.{descending}

pub descending-length : (n : ℕ) → length (descending n) ≡ n
unfolding descending
descending-length n = values-length (λ k. n - (k + 1)) n

pub descending_at : (n k : ℕ) → k < n → nth (descending n) k ≡ n - (k + 1)
unfolding descending
descending_at n k h = values_at (λ k. n - (k + 1)) n k 0 h

pub descending_once : (n : ℕ) → EachOnce n (nth (descending n))
descending_once n = record {
  inside = λ t h. omega (arith, descending_at n t h);
  distinct = λ t v h l e. omega (arith, descending_at n t h, descending_at n v l);
}
