-- A column of the elimination in parts is that of the state that stands in them.
-- Assumes nothing.
use mathlib.Core.Path.{◌≡◌, refl, sym, ap, ap₂, ◌∙◌}
use mathlib.Core.Bool.{Bool, not, true≢false}
use borrow.Author.Tests.{ne_eqb}
use Rattle.std.proofs.Common.{eq-eqb}
use mathlib.Core.List.{List, [], ◌∷◌, ◌++◌}
use Prim.Native.Nat.{ℕ, suc, ◌+◌, ◌-◌, ◌<◌, ◌≤◌}
use native.Mathlib.Numerals.{add-one}
use native.Mathlib.Omega.{arith}
use lib.Dec.{eqb}
use lib.ListN.{length, set}
use mathlib.Core.Logic.{⊎_elim, ◌≢◌}
use Rattle.std.specs.Prelude.{Option, Some, None, MatchOption}
use Rattle.lists.specs.Iter.{iter}
use Rattle.lists.specs.Changed.{changed}
use Rattle.lists.specs.Laid.{laid}
use Rattle.lists.specs.Lowest.{lowest}
use Rattle.lists.specs.Values.{values}
use Rattle.lists.proofs.Cases.{less_or_not}
use Rattle.lists.proofs.Choice.{pick_less, pick_not_less}
use Rattle.lists.proofs.Changed.{changed_at, changed_other}
use Rattle.lists.proofs.Iter.{iter_more}
use Rattle.lists.proofs.Laid.{laid_start, laid_on}
use Rattle.lists.proofs.Lowest.{IsLowest, lowest_is}
use Rattle.lists.proofs.Values.{values-length, values_more, values_ext}
use Rattle.elimination.specs.Matrix.{Matrix}
use Rattle.elimination.specs.Elimination.{State, swapped, cleared, pivot_row, pivoted, column_turn, eliminated}
use Rattle.elimination.specs.Standing.{Holds, Stands, below}

-- ---- a row that is found, or none

-- what the library's `find` says of the numbers from r to m, said of the lowest at which f is not 0
pub below_first : (f : ℕ → ℕ) (m r : ℕ) (found : Option ℕ)
    → MatchOption found ((i : ℕ) → r ≤ i → i < m → f i ≡ 0) (λ p. (r ≤ p) × (p < m) × (f p ≢ 0) × ((i : ℕ) → r ≤ i → i < p → f i ≡ 0))
    → found ≡ below m (lowest (λ i. not (eqb (f i) 0)) (m - r) r)
below_first f m r found h = by found h
  where
    test : ℕ → Bool
    test i = not (eqb (f i) 0)

    w : ℕ
    w = lowest test (m - r) r

    is : IsLowest test (m - r) r w
    is = lowest_is test (m - r) r

    -- it does not pass over w
    hit : w < m → f w ≡ 0 → ⊥
    hit b z = true≢false (sym (is.found (omega (arith, is.from))) ∙ ap not (eq-eqb (f w) 0 z))

    by : (o : Option ℕ) → MatchOption o ((i : ℕ) → r ≤ i → i < m → f i ≡ 0) (λ p. (r ≤ p) × (p < m) × (f p ≢ 0) × ((i : ℕ) → r ≤ i → i < p → f i ≡ 0)) → o ≡ below m w
    by None h = sym (pick_not_less w m (Some w) None (⊎_elim (λ (b : w < m). absurd (hit b (h w is.from b))) (λ b. b) (less_or_not w m)))
    by (Some p) h =
        let low : w ≤ p = ⊎_elim (λ (b : p < w). absurd (true≢false (sym (ap not (ne_eqb (f p) 0 h.2)) ∙ is.none p h.0 b))) (λ b. b) (less_or_not p w) in
        let up : p ≤ w = ⊎_elim (λ (b : w < p). absurd (hit (omega (arith, h.1)) (h.3 w is.from b))) (λ b. b) (less_or_not w p) in
        let e : p ≡ w = omega arith in
        rw (← e) (sym (pick_less p m (Some p) None h.1))

pub below_is : (m p w : ℕ) → Some p ≡ below m w → (p < m) × (p ≡ w)
below_is m p w e =
    ⊎_elim
    (λ h. let q : p ≡ w = some_same p w (e ∙ pick_less w m (Some w) None h) in (omega arith, q))
    (λ h. absurd (let q = e ∙ pick_not_less w m (Some w) None h in some_none p q))
    (less_or_not w m)
  where
    some_same : (a b : ℕ) → Some a ≡ Some b → a ≡ b
    some_same a b q = cc

    some_none : (a : ℕ) → Some a ≡ None → ⊥
    some_none a q = cc

pub below_is_none : (m w : ℕ) → None ≡ below m w → m ≤ w
below_is_none m w e =
    ⊎_elim
    (λ h. absurd (none_some w (e ∙ pick_less w m (Some w) None h)))
    (λ h. h)
    (less_or_not w m)
  where
    none_some : (a : ℕ) → None ≡ Some a → ⊥
    none_some a q = cc

-- ---- a column

module _ (m n c : ℕ) (s : State) (part l ps : List ℕ) (r p : ℕ) (w : Stands m n s part l ps r) (low : p ≡ lowest (λ i. not (eqb (s.matrix i c) 0)) (m - r) r) where
  row : pivot_row m c s ≡ p
  unfolding pivot_row
  row = sym (low ∙ ap (λ (x : ℕ). lowest (λ i. not (eqb (s.matrix i c) 0)) (m - x) x) w.rank)

  pub column_turn_none : m ≤ p → Stands m n (column_turn m c s) part l ps r
  unfolding column_turn
  column_turn_none h = rw (pick_not_less (pivot_row m c s) m (pivoted c (pivot_row m c s) s) s (rw row h)) w

  pivots_on : r < length part → set ps r c ≡ laid (values (r + 1) (changed s.pivot s.rank c)) part
  pivots_on h =
      laid_on (values r s.pivot) part ps r c (sym (values-length s.pivot r)) h w.pivots
      ∙ ap (λ (x : List ℕ). laid x part) (sym (values_more f r ∙ ap₂ (λ (x : List ℕ) (y : ℕ). x ++ y ∷ []) old (changed_at s.pivot s.rank c r w.rank)))
    where
      f : ℕ → ℕ
      f = changed s.pivot s.rank c

      old : values r f ≡ values r s.pivot
      old = values_ext r f s.pivot 0 (λ k h. changed_other s.pivot s.rank c k (λ e. omega (arith, w.rank)))

  pub column_turn_some : p < m → r < length part → (k : List ℕ) → Holds m n (cleared r c (swapped r p s.matrix)) k → Stands m n (column_turn m c s) part k (set ps r c) (r + 1)
  unfolding column_turn pivoted
  column_turn_some h b k v =
      rw (pick_less (pivot_row m c s) m (pivoted c (pivot_row m c s) s) s (rw row h), row)
      (record { holds = rw w.rank at v; rank = add-one r ∙ ap suc w.rank; pivots = pivots_on b })

-- ---- the columns one after another

pub stands_start : (m n : ℕ) (order : ℕ → ℕ) (g : Matrix) (part l : List ℕ) → Holds m n g l → Stands m n (eliminated m order g 0) part l part 0
unfolding eliminated iter values
stands_start m n order g part l w = record { holds = w; rank = refl; pivots = laid_start part }

pub eliminated_more : (m : ℕ) (order : ℕ → ℕ) (g : Matrix) (k : ℕ) → eliminated m order g (k + 1) ≡ column_turn m (order k) (eliminated m order g k)
unfolding eliminated
eliminated_more m order g k = iter_more k (λ t s. column_turn m (order t) s) (record { matrix = g; rank = 0; pivot = λ _. 0 })
