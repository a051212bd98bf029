-- The echelon form: pivots are found in the order's places, and a row is 0 in every column that comes before its pivot's in the order. So a solution's last
-- symbol that is not 0, in the order, is at no pivot.
-- Assumes nothing.
use mathlib.Core.Path.{◌≡◌, sym, ap, ◌∙◌}
use mathlib.Core.Logic.{◌≢◌, ⊎_elim}
use mathlib.Core.Bool.{not}
use mathlib.Core.List.{List}
use Prim.Native.Nat.{ℕ, zero, suc, ◌-◌, ◌<◌, ◌≤◌}
use native.Mathlib.Nat.{le_refl, not-suc-le-zero}
use native.Mathlib.Omega.{arith}
use lib.Dec.{eqb}
use Rattle.lists.specs.Changed.{changed}
use Rattle.lists.specs.Choice.{pick}
use Rattle.lists.specs.EachOnce.{EachOnce}
use Rattle.lists.specs.Entry.{nth}
use Rattle.lists.specs.Iter.{iter}
use Rattle.lists.proofs.Cases.{same_or_not, less_or_not}
use Rattle.lists.proofs.Changed.{changed_at, changed_other}
use Rattle.lists.proofs.Choice.{pick_same, pick_other, pick_less, pick_not_less}
use Rattle.lists.proofs.EachOnce.{each_once_has}
use Rattle.lists.proofs.Lowest.{lowest_is}
use Rattle.field.specs.Field.{product}
use Rattle.field.proofs.FieldSum.{sum_ext, sum_one}
use Rattle.field.proofs.Product.{one_product, zero-product, product-zero}
use Rattle.elimination.specs.Graph.{Graph, check_count}
use Rattle.elimination.specs.Matrix.{Matrix, matrix_of}
use Rattle.elimination.specs.Elimination.{swapped, State, pivot_row, pivoted, column_turn, eliminated, reduced}
use Rattle.elimination.specs.Solutions.{row_times, Solves}
use Rattle.elimination.proofs.Swapped.{swapped_r, swapped_other}
use Rattle.elimination.proofs.Cleared.{cleared_keep}
use Rattle.elimination.proofs.Eliminated.{Eliminated, eliminated_is}
use Rattle.elimination.proofs.Entries.{Small, matrix_lt}

-- k columns of the order are taken; `place` has the place in the order of each pivot
pub record Echelon (order : ℕ → ℕ) (k : ℕ) (s : State) : Type 0 where
  pub place : ℕ → ℕ
  pub taken : (i : ℕ) → i < s.rank → place i < k
  pub pivot : (i : ℕ) → i < s.rank → s.pivot i ≡ order (place i)
  pub rise : (i l : ℕ) → i < l → l < s.rank → place i < place l
  -- a row is 0 in the columns before its pivot's
  pub blank : (i t : ℕ) → i < s.rank → t < place i → s.matrix i (order t) ≡ 0

-- ---- one column

module _ (m n : ℕ) (order : ℕ → ℕ) (h₀ : Matrix) (k : ℕ) (s : State) (w : Eliminated m n order h₀ k s) (e : Echelon order k s) where
  module _ (p : ℕ) (from : s.rank ≤ p) (to : p < m) where
    abbrev r : ℕ
    r = s.rank

    abbrev c : ℕ
    c = order k

    abbrev g : Matrix
    g = swapped r p s.matrix

    -- the row that is taken is 0 in the columns so far
    g_blank : (t : ℕ) → t < k → g r (order t) ≡ 0
    g_blank t h = ap (λ (f : ℕ → ℕ). f (order t)) (swapped_r r p s.matrix) ∙ w.past t p h from to

    abbrev at : ℕ → ℕ
    at = changed e.place r k

    at_new : (i : ℕ) → i ≡ r → at i ≡ k
    at_new i q = changed_at e.place r k i q

    at_old : (i : ℕ) → i ≢ r → at i ≡ e.place i
    at_old i q = changed_other e.place r k i q

    pivoted_echelon : Echelon order (suc k) (pivoted (order k) p s)
    unfolding pivoted
    pivoted_echelon = record {
      place = at;
      taken = λ i a. ⊎_elim
          (λ q. omega (arith, at_new i q))
          (λ q. omega (arith, at_old i q, e.taken i (omega (arith, q))))
          (same_or_not i r);
      pivot = λ i a. ⊎_elim
          (λ q. changed_at s.pivot r c i q ∙ ap order (sym (at_new i q)))
          (λ q. changed_other s.pivot r c i q ∙ e.pivot i (omega (arith, q)) ∙ ap order (sym (at_old i q)))
          (same_or_not i r);
      rise = λ i l a b. ⊎_elim
          (λ q. omega (arith, at_new l q, at_old i (omega arith), e.taken i (omega arith)))
          (λ q. omega (arith, at_old l q, at_old i (omega (arith, q)), e.rise i l a (omega (arith, q))))
          (same_or_not l r);
      blank = λ i t a b. ⊎_elim
          (λ q. let h : t < k = omega (arith, at_new i q) in
          cleared_keep r c g (order t) (g_blank t h) i ∙ ap (λ (j : ℕ). g j (order t)) q ∙ g_blank t h)
          (λ q.
          let hi : i < r = omega (arith, q) in
          let h : t < e.place i = omega (arith, at_old i q) in
          cleared_keep r c g (order t) (g_blank t (omega (arith, e.taken i hi))) i
          ∙ ap (λ (f : ℕ → ℕ). f (order t)) (swapped_other r p s.matrix i q (omega arith))
          ∙ e.blank i t hi h)
          (same_or_not i r);
    }

  passed_echelon : Echelon order (suc k) s
  passed_echelon = record {
    place = e.place;
    taken = λ i a. omega (arith, e.taken i a);
    pivot = e.pivot;
    rise = e.rise;
    blank = e.blank;
  }

  from : s.rank ≤ pivot_row m (order k) s
  unfolding pivot_row
  from = (lowest_is (λ i. not (eqb (s.matrix i (order k)) 0)) (m - s.rank) s.rank).from

  column_turn_echelon : Echelon order (suc k) (column_turn m (order k) s)
  unfolding column_turn
  column_turn_echelon =
      ⊎_elim
      (λ l. rw (pick_less p m (pivoted (order k) p s) s l) (pivoted_echelon p from l))
      (λ l. rw (pick_not_less p m (pivoted (order k) p s) s l) passed_echelon)
      (less_or_not p m)
    where
      p : ℕ
      p = pivot_row m (order k) s

-- ---- all columns

pub eliminated_echelon : (m n : ℕ) (order : ℕ → ℕ) (h : Matrix) → ((t : ℕ) → t < n → order t < n) → ((i j : ℕ) → h i j < 32)
    → (k : ℕ) → k ≤ n → Echelon order k (eliminated m order h k)
unfolding eliminated iter
eliminated_echelon m n order h inside small zero l = record {
  place = λ _. 0;
  taken = λ i a. absurd (not-suc-le-zero a);
  pivot = λ i a. absurd (not-suc-le-zero a);
  rise = λ i l a b. absurd (not-suc-le-zero b);
  blank = λ i t a. absurd (not-suc-le-zero a);
}
eliminated_echelon m n order h inside small (suc k) l =
    column_turn_echelon m n order h k (eliminated m order h k) (eliminated_is m n order h inside small k (omega arith)) (eliminated_echelon m n order h inside small k (omega arith))

pub reduced_echelon : (g : Graph) (order : List ℕ) → Small g → ((t : ℕ) → t < g.n → nth order t < g.n) → Echelon (nth order) g.n (reduced g order)
unfolding reduced
reduced_echelon g order w inside = eliminated_echelon (check_count g) g.n (nth order) (matrix_of g) inside (matrix_lt g w) g.n (le_refl g.n)

-- ---- the last symbol of a solution that is not 0

module _ {m n : ℕ} {order : ℕ → ℕ} {h : Matrix} {s : State} (w : Eliminated m n order h n s) (e : Echelon order n s) (each : EachOnce n order) where
  -- the pivot of row i is at one place
  pub place_of : (i a : ℕ) → i < s.rank → a < n → s.pivot i ≡ order a → e.place i ≡ a
  place_of i a l b q = each.distinct (e.place i) a (e.taken i l) b (sym (e.pivot i l) ∙ q)

  -- table entries are 0 where the column comes before the row's pivot
  pub entry_blank : (i a b : ℕ) → i < s.rank → a < b → b < n → s.pivot i ≡ order b → s.matrix i (order a) ≡ 0
  entry_blank i a b l ab bn q = e.blank i a l (omega (arith, place_of i b l bn q))

  -- a solution that is 0 at every place past a is 0 at place a, too, where a pivot is there
  pub last_zero : (x : ℕ → ℕ) → Solves m n h x → (a : ℕ) → a < n → x (order a) < 32 → ((b : ℕ) → a < b → b < n → x (order b) ≡ 0)
      → (i : ℕ) → i < s.rank → s.pivot i ≡ order a → x (order a) ≡ 0
  unfolding row_times
  last_zero x y a an small after i l q =
      sym
      (sum_ext n (λ j. product (s.matrix i j) (x j)) (λ j. pick (eqb j (order a)) (x j) 0) term
      ∙ sum_one n (order a) x (each.inside a an))
      ∙ (w.same x).1 y i (omega (arith, w.rank_rows))
    where
      term : (j : ℕ) → j < n → product (s.matrix i j) (x j) ≡ pick (eqb j (order a)) (x j) 0
      term j b =
          ⊎_elim
          (λ z.
          ap (λ (f : ℕ). product f (x j)) (ap (s.matrix i) (z ∙ sym q) ∙ w.one i l)
          ∙ one_product (x j) (rw z small)
          ∙ sym (pick_same j (order a) (x j) 0 z))
          (λ z. vanishes z ∙ sym (pick_other j (order a) (x j) 0 z))
          (same_or_not j (order a))
        where
          v : (t : ℕ) × (t < n) × (order t ≡ j)
          v = each_once_has n order each j b

          t : ℕ
          t = v.0

          vanishes : j ≢ order a → product (s.matrix i j) (x j) ≡ 0
          vanishes z =
              ⊎_elim
              (λ (d : t < a). ap (λ (f : ℕ). product f (x j)) (ap (s.matrix i) (sym v.2) ∙ entry_blank i t a l d an q) ∙ zero-product (x j))
              (λ (d : a ≤ t).
              let ne : t ≢ a = λ u. z (sym v.2 ∙ ap order u) in
              ap (product (s.matrix i j)) (ap x (sym v.2) ∙ after t (omega (arith, ne)) v.1) ∙ product-zero (s.matrix i j))
              (less_or_not t a)
