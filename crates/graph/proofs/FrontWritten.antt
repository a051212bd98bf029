-- What is written over the front of a part is laid over it.
-- Assumes nothing.
use Prim.Native.Nat.{ℕ}
use mathlib.Core.Path.{◌≡◌, ap₂, sym}
use mathlib.Core.List.{List, ◌++◌}
use lib.ListN.{length, drop}
use Rattle.lists.specs.Laid.{laid}

pub front_written : {A : Type 0} (l w p : List A) (k : ℕ) → w ≡ l → length l ≡ k → w ++ drop k p ≡ laid l p
unfolding laid
front_written l w p k e n = ap₂ (λ (a : List _) (m : ℕ). a ++ drop m p) e (sym n)
