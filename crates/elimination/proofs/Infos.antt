-- The information positions and the pivots split the positions; how many they are, and that the table fits its part.
-- Assumes nothing.
use mathlib.Core.Path.{◌≡◌, sym, ap, ◌∙◌}
use mathlib.Core.Logic.{◌≢◌, ◌⊎◌, inl, inr, ⊎_elim}
use mathlib.Core.Bool.{Bool, not}
use Prim.Native.Nat.{ℕ, ◌+◌, ◌-◌, ◌*◌, ◌<◌, ◌≤◌}
use native.Mathlib.Nat.{mul_comm, mul-zero, mul-add, mul-le-mul_left, mul-le-mul_right}
use native.Mathlib.Omega.{arith}
use borrow.Author.Tests.{not-true}
use lib.Dec.{lit≤}
use lib.ListN.{length}
use Rattle.lists.specs.Among.{among}
use Rattle.lists.specs.Entry.{nth}
use Rattle.lists.proofs.Cases.{same_or_not, less_or_not, true_or_false}
use Rattle.lists.proofs.Among.{among-true, among-false, others_count}
use Rattle.lists.proofs.Keep.{keep_below_has, keep_below_passes, keep_below_ascends}
use Rattle.elimination.specs.Matrix.{Matrix}
use Rattle.elimination.specs.Elimination.{State, infos}
use Rattle.elimination.proofs.Eliminated.{Eliminated}

-- ---- of any state

module _ (n : ℕ) (s : State) where
  abbrev test : ℕ → Bool
  test j = not (among s.rank s.pivot j)

  -- each position is a pivot or an information position
  pub info_or_pivot : (j : ℕ) → j < n → ((i : ℕ) × (i < s.rank) × (s.pivot i ≡ j)) ⊎ ((t : ℕ) × (t < length (infos n s)) × (nth (infos n s) t ≡ j))
  unfolding infos
  info_or_pivot j h =
      ⊎_elim (λ e. inl (among-true s.rank s.pivot j e)) (λ e. inr (keep_below_has test n j h (ap not e))) (true_or_false (among s.rank s.pivot j))

  -- and not both
  pub info_no_pivot : (t i : ℕ) → t < length (infos n s) → i < s.rank → s.pivot i ≢ nth (infos n s) t
  unfolding infos
  info_no_pivot t i h l =
      among-false s.rank s.pivot (nth (infos n s) t) (not-true (among s.rank s.pivot (nth (infos n s) t)) (keep_below_passes test n t h).1) i l

  pub info_inside : (t : ℕ) → t < length (infos n s) → nth (infos n s) t < n
  unfolding infos
  info_inside t h = (keep_below_passes test n t h).0

  pub infos_ascend : (t v : ℕ) → t < v → v < length (infos n s) → nth (infos n s) t < nth (infos n s) v
  unfolding infos
  infos_ascend t v l h = keep_below_ascends test n t v l h

-- two numbers whose sum is at most 256
half_square : (a b : ℕ) → a ≤ 128 → a + b ≤ 256 → a * b ≤ 16384
half_square a b h l =
    let d = 128 - a in
    let k : b ≤ 128 + d = omega arith in
    omega (arith, mul-le-mul_left a k, mul-add a 128 d, mul-le-mul_right d h)

pub square : (a b : ℕ) → a + b ≤ 256 → a * b ≤ 16384
square a b l =
    ⊎_elim (λ h. half_square a b (omega arith) l) (λ h. rw (mul_comm a b) (half_square b a (omega arith) (omega arith))) (less_or_not a 128)

-- a number and what is left of n, whether or not the number is at most n
pub rest_square : (n a : ℕ) → n ≤ 256 → a * (n - a) ≤ 16384
rest_square n a l =
    ⊎_elim
    (λ h. square a (n - a) (omega arith))
    (λ (h : n ≤ a). let e : n - a ≡ 0 = omega arith in rw (e, mul-zero a) (lit≤ tt))
    (less_or_not a n)

-- ---- of the state that elimination gives

module _ {m n : ℕ} {order : ℕ → ℕ} {h : Matrix} {k : ℕ} {s : State} (w : Eliminated m n order h k s) where
  pub pivots_distinct : (i l : ℕ) → i < s.rank → l < s.rank → s.pivot i ≡ s.pivot l → i ≡ l
  pivots_distinct i l a b e =
      ⊎_elim
      (λ q. q)
      (λ q. let z : ◌≡◌ {A = ℕ} 0 1 = sym (w.unit l i b (omega (arith, w.rank_rows)) q) ∙ ap (s.matrix i) (sym e) ∙ w.one i a in absurd (omega arith))
      (same_or_not i l)

  pub infos_count : s.rank + length (infos n s) ≡ n
  unfolding infos
  infos_count = others_count n s.rank s.pivot w.inside pivots_distinct

  pub rank_columns : s.rank ≤ n
  rank_columns = omega (arith, infos_count)

  pub table_fits : n ≤ 256 → s.rank * length (infos n s) ≤ 16384
  table_fits l = square s.rank (length (infos n s)) (omega (arith, infos_count))
