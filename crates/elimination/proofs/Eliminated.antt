-- What elimination gives, for every matrix of field elements and every order of its columns: the same solutions, a unit vector in each pivot column,
-- and 0 below the rank in each column turned.
-- Assumes nothing.
use mathlib.Core.Path.{◌≡◌, ap, ◌∙◌}
use mathlib.Core.Logic.{◌≢◌, ⊎_elim, ◌↔◌}
use mathlib.Core.Bool.{not}
use Prim.Native.Nat.{ℕ, suc, ◌-◌, ◌<◌, ◌≤◌}
use native.Mathlib.Nat.{le_refl, not-suc-le-zero}
use native.Mathlib.Omega.{arith}
use borrow.Author.Tests.{eqb-true, eqb-false, not-true, not-false}
use lib.Dec.{eqb}
use Rattle.lists.specs.Changed.{changed}
use Rattle.lists.proofs.Cases.{same_or_not, less_or_not}
use Rattle.lists.proofs.Choice.{pick_less, pick_not_less}
use Rattle.lists.proofs.Changed.{changed_at, changed_other}
use Rattle.lists.proofs.Iter.{iter_keeps}
use Rattle.lists.proofs.Lowest.{IsLowest, lowest_is}
use Rattle.elimination.specs.Matrix.{Matrix}
use Rattle.elimination.specs.Elimination.{swapped, cleared, State, pivot_row, pivoted, column_turn, eliminated}
use Rattle.elimination.specs.Solutions.{Solves}
use Rattle.elimination.proofs.Swapped.{swapped_each, swapped_r, swapped_other, swapped_solves}
use Rattle.elimination.proofs.Cleared.{cleared-lt, cleared_keep, cleared_one, cleared-zero, cleared_solves}

-- k columns of the order are turned
pub record Eliminated (m n : ℕ) (order : ℕ → ℕ) (h : Matrix) (k : ℕ) (s : State) : Type 0 where
  pub small : (i j : ℕ) → s.matrix i j < 32
  pub rank_rows : s.rank ≤ m
  pub same : (x : ℕ → ℕ) → Solves m n s.matrix x ↔ Solves m n h x
  pub inside : (i : ℕ) → i < s.rank → s.pivot i < n
  -- a pivot column is a unit vector
  pub one : (i : ℕ) → i < s.rank → s.matrix i (s.pivot i) ≡ 1
  pub unit : (i l : ℕ) → i < s.rank → l < m → l ≢ i → s.matrix l (s.pivot i) ≡ 0
  -- rows past the rank are 0 in the columns turned
  pub past : (t l : ℕ) → t < k → s.rank ≤ l → l < m → s.matrix l (order t) ≡ 0

-- ---- a column with a pivot

module _ (m n : ℕ) (order : ℕ → ℕ) (h₀ : Matrix) (k : ℕ) (s : State) (w : Eliminated m n order h₀ k s)
    (p : ℕ) (from : s.rank ≤ p) (to : p < m) (nz : s.matrix p (order k) ≢ 0) (inside : order k < n) where
  abbrev h : Matrix
  h = s.matrix

  abbrev r : ℕ
  r = s.rank

  abbrev c : ℕ
  c = order k

  abbrev g : Matrix
  g = swapped r p h

  g_small : (i j : ℕ) → g i j < 32
  g_small i j = swapped_each r p h (λ i f. f j < 32) (w.small p j) (w.small r j) (λ i a b. w.small i j) i

  g_unit : (i l : ℕ) → i < r → l < m → l ≢ i → g l (s.pivot i) ≡ 0
  g_unit i l hi =
      swapped_each r p h (λ l f. l < m → l ≢ i → f (s.pivot i) ≡ 0)
      (λ a b. w.unit i p hi to (omega arith))
      (λ a b. w.unit i r hi (omega arith) (omega arith))
      (λ l a b d e. w.unit i l hi d e) l

  g_past : (t l : ℕ) → t < k → r ≤ l → l < m → g l (order t) ≡ 0
  g_past t l ht =
      swapped_each r p h (λ l f. r ≤ l → l < m → f (order t) ≡ 0)
      (λ a b. w.past t p ht from to)
      (λ a b. w.past t r ht (le_refl r) (omega arith))
      (λ l a b d e. w.past t l ht d e) l

  g_nz : g r c ≢ 0
  g_nz e = nz (rw (swapped_r r p h) at e)

  pivoted_is : Eliminated m n order h₀ (suc k) (pivoted (order k) p s)
  unfolding pivoted
  pivoted_is = record {
    small = cleared-lt r c g g_small;
    rank_rows = omega arith;
    same = λ x. (
      λ y. (w.same x).0 ((swapped_solves m n r p h x hr to).0 ((cleared_solves m n r c g x hr (g_small r c) g_nz).0 y)),
      λ y. (cleared_solves m n r c g x hr (g_small r c) g_nz).1 ((swapped_solves m n r p h x hr to).1 ((w.same x).1 y)),
    );
    inside = λ i a. ⊎_elim
        (λ e. rw (changed_at s.pivot r c i e) inside)
        (λ q. rw (changed_other s.pivot r c i q) (w.inside i (omega (arith, q))))
        (same_or_not i r);
    one = λ i a. ⊎_elim (λ e. rw (changed_at s.pivot r c i e) (rw e (cleared_one r c g (g_small r c) g_nz))) (one_case i a) (same_or_not i r);
    unit = λ i l a b d. ⊎_elim
        (λ e. rw (changed_at s.pivot r c i e) (cleared-zero r c g (g_small r c) g_nz l (g_small l c) (omega (arith, e))))
        (unit_case i l a b d)
        (same_or_not i r);
    past = λ t l a b d. ⊎_elim
        (λ e. rw e (cleared-zero r c g (g_small r c) g_nz l (g_small l c) (omega arith)))
        (λ q. let ht : t < k = omega (arith, q) in cleared_keep r c g (order t) (g_past t r ht (le_refl r) hr) l ∙ g_past t l ht (omega arith) d)
        (same_or_not t k);
  }
    where
      hr : r < m
      hr = omega arith

      g-r : (i : ℕ) → i < r → g r (s.pivot i) ≡ 0
      g-r i a = g_unit i r a hr (omega arith)

      one_case : (i : ℕ) → i < suc r → i ≢ r → cleared r c g i (changed s.pivot r c i) ≡ 1
      one_case i a q =
          let hi : i < r = omega (arith, q) in
          rw (changed_other s.pivot r c i q)
          (cleared_keep r c g (s.pivot i) (g-r i hi) i ∙ ap (λ (f : ℕ → ℕ). f (s.pivot i)) (swapped_other r p h i q (omega arith)) ∙ w.one i hi)

      unit_case : (i l : ℕ) → i < suc r → l < m → l ≢ i → i ≢ r → cleared r c g l (changed s.pivot r c i) ≡ 0
      unit_case i l a b d q =
          let hi : i < r = omega (arith, q) in
          rw (changed_other s.pivot r c i q) (cleared_keep r c g (s.pivot i) (g-r i hi) l ∙ g_unit i l hi b d)

-- ---- a column with none, and either

module _ (m n : ℕ) (order : ℕ → ℕ) (h₀ : Matrix) (k : ℕ) (s : State) (w : Eliminated m n order h₀ k s) where
  passed_is : ((l : ℕ) → s.rank ≤ l → l < m → s.matrix l (order k) ≡ 0) → Eliminated m n order h₀ (suc k) s
  passed_is z = record {
    small = w.small;
    rank_rows = w.rank_rows;
    same = w.same;
    inside = w.inside;
    one = w.one;
    unit = w.unit;
    past = λ t l a b d. ⊎_elim (λ e. rw e (z l b d)) (λ q. w.past t l (omega (arith, q)) b d) (same_or_not t k);
  }

  column_turn_is : order k < n → Eliminated m n order h₀ (suc k) (column_turn m (order k) s)
  unfolding column_turn pivot_row
  column_turn_is inside =
      ⊎_elim
      (λ l. rw (pick_less p m (pivoted (order k) p s) s l) (pivoted_is m n order h₀ k s w p low.from l (found l) inside))
      (λ l. rw (pick_not_less p m (pivoted (order k) p s) s l) (passed_is (λ i a b. none i a (omega arith))))
      (less_or_not p m)
    where
      p : ℕ
      p = pivot_row m (order k) s

      low : IsLowest (λ i. not (eqb (s.matrix i (order k)) 0)) (m - s.rank) s.rank p
      low = lowest_is (λ i. not (eqb (s.matrix i (order k)) 0)) (m - s.rank) s.rank

      found : p < m → s.matrix p (order k) ≢ 0
      found l = eqb-false (s.matrix p (order k)) 0 (not-true (eqb (s.matrix p (order k)) 0) (low.found (omega (arith, w.rank_rows))))

      none : (i : ℕ) → s.rank ≤ i → i < p → s.matrix i (order k) ≡ 0
      none i a b = eqb-true (s.matrix i (order k)) 0 (not-false (eqb (s.matrix i (order k)) 0) (low.none i a b))

pub eliminated_is : (m n : ℕ) (order : ℕ → ℕ) (h : Matrix) → ((t : ℕ) → t < n → order t < n) → ((i j : ℕ) → h i j < 32)
    → (k : ℕ) → k ≤ n → Eliminated m n order h k (eliminated m order h k)
unfolding eliminated
eliminated_is m n order h inside small k l =
    iter_keeps (Eliminated m n order h) k (λ t s. column_turn m (order t) s) (record { matrix = h; rank = 0; pivot = λ _. 0 })
    (record {
      small = small;
      rank_rows = omega arith;
      same = λ x. (λ y. y, λ y. y);
      inside = λ i a. absurd (not-suc-le-zero a);
      one = λ i a. absurd (not-suc-le-zero a);
      unit = λ i l a. absurd (not-suc-le-zero a);
      past = λ t l a. absurd (not-suc-le-zero a);
    })
    (λ t a s w. column_turn_is m n order h t s w (inside t (omega arith)))
