-- The library's search through the front of a part, in the words of number 6.
-- Assumes nothing.
use Prim.Native.Nat.{ℕ, ◌≤◌}
use mathlib.Core.Path.{◌≡◌}
use mathlib.Core.Bool.{◌||◌}
use mathlib.Core.List.{List}
use lib.Dec.{eqb, leb, ltb}
use lib.ListN.{length, take}
use Rattle.std.specs.List.{list_any}
use Rattle.lists.specs.EachOnce.{outside}
use Rattle.lists.specs.Entry.{nth}
use Rattle.lists.proofs.ListSearch.{list_any_front}
use Rattle.lent.specs.Malformed.{bad_coefs}

pub outside_front : (m : ℕ) (l : List ℕ) (k : ℕ) → k ≤ length l → list_any (λ x. leb m x) (take k l) ≡ outside m k (nth l)
unfolding outside
outside_front m l k h = list_any_front (λ x. leb m x) l k h

pub coefs_front : (coef : List ℕ) (k : ℕ) → k ≤ length coef → list_any (λ x. eqb x 0 || ltb 31 x) (take k coef) ≡ bad_coefs k coef
unfolding bad_coefs
coefs_front coef k h = list_any_front (λ x. eqb x 0 || ltb 31 x) coef k h
