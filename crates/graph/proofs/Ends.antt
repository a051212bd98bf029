-- The tests of the call new: those that touch nothing and those after them, and what both leave.
-- Assumes nothing.
use Prim.Native.Nat.{ℕ}
use mathlib.Core.Path.{◌≡◌, sym, ap, ◌∙◌}
use mathlib.Core.Bool.{Bool, false, not, ◌||◌}
use mathlib.Core.List.{List, [], ◌∷◌}
use borrow.Author.Tests.{ltb-false}
use lib.Dec.{eqb, ltb}
use lib.ListN.{length}
use Rattle.std.specs.Prelude.{None, Ok}
use Rattle.lists.specs.Entry.{nth}
use Rattle.lists.specs.Total.{total}
use Rattle.lists.proofs.AnyBelow.{any_below_not}
use Rattle.calls.specs.declared.Refusal.{Refusal}
use Rattle.calls.specs.declared.Refusal.TheVariants.{Size, Length, DegreeSum, DegreeTooHigh}
use Rattle.calls.specs.Refusal.{first_of, answered, misfits, misfit}
use Rattle.calls.proofs.Refusals.{pass, by_ok, Alike, alike}
use Rattle.graph.specs.Sizes.{too_large, code_lengths}
use Rattle.graph.specs.Parts.{Parts}
use Rattle.graph.specs.New.{Work, work_lengths, too_many, too_high}
use Rattle.graph.specs.Buildable.{Buildable, PartsFit, WorkFits}
use Rattle.graph.proofs.Sizes.{sizes_small, parts_fit}

-- the tests that touch nothing, and those after them
abbrev pub early_tests : ℕ → ℕ → List ℕ → Parts → Work → List (Bool × Refusal)
early_tests n m degrees code work = (too_large n m, Size) ∷ (misfits ((length degrees, n) ∷ code_lengths code) (misfit (work_lengths work)), Length) ∷ []

abbrev pub late_tests : ℕ → ℕ → List ℕ → List (Bool × Refusal)
late_tests n m degrees = (too_many n degrees, DegreeSum) ∷ (too_high n m degrees, DegreeTooHigh) ∷ []

-- ---- what the code's two steps answer of them: `w` and `b` are what its tests of the lengths say

module _ (n m : ℕ) (degrees : List ℕ) (code : Parts) (work : Work) where
  pub early_none : {w b : Bool} {u : Unit {0}} → w ≡ misfit (work_lengths work) → b ≡ misfits (code_lengths code) w
      → Ok u ≡ answered (first_of ((too_large n m, Size) ∷ (not (eqb (length degrees) n) || b, Length) ∷ [])) tt → first_of (early_tests n m degrees code work) ≡ None
  early_none {w} {b} e f h =
      ap (λ (b : Bool). first_of ((too_large n m, Size) ∷ (not (eqb (length degrees) n) || b, Length) ∷ [])) (sym (f ∙ ap (misfits (code_lengths code)) e))
      ∙ (by_ok (first_of ((too_large n m, Size) ∷ (not (eqb (length degrees) n) || b, Length) ∷ [])) tt h).0

pub late_none : (n m : ℕ) (degrees : List ℕ) {u : Unit {0}} → length degrees ≡ n → Ok u ≡ answered (first_of (late_tests (length degrees) m degrees)) tt → first_of (late_tests n m degrees) ≡ None
late_none n m degrees e h = ap (λ (k : ℕ). first_of (late_tests k m degrees)) (sym e) ∙ (by_ok (first_of (late_tests (length degrees) m degrees)) tt h).0

-- ---- what the tests leave

module _ (n m : ℕ) (degrees : List ℕ) (code : Parts) (work : Work) (e : first_of (early_tests n m degrees code work) ≡ None) where
  large : (too_large n m ≡ false) × (first_of ((misfits ((length degrees, n) ∷ code_lengths code) (misfit (work_lengths work)), Length) ∷ []) ≡ None)
  large = pass (too_large n m) Size ((misfits ((length degrees, n) ∷ code_lengths code) (misfit (work_lengths work)), Length) ∷ []) e

  lengths : Alike ((length degrees, n) ∷ code_lengths code) × (misfit (work_lengths work) ≡ false)
  lengths =
      alike ((length degrees, n) ∷ code_lengths code) (misfit (work_lengths work))
      (pass (misfits ((length degrees, n) ∷ code_lengths code) (misfit (work_lengths work))) Length [] large.1).0

  pub new_long : length degrees ≡ n
  new_long = lengths.0.0

  pub new_parts : PartsFit code
  new_parts = parts_fit code lengths.0.1

  pub new_work : WorkFits work
  new_work =
      let a = (alike (work_lengths work) false lengths.1).0 in
      record { chk = a.0; load = a.1.0; own = a.1.1.0; deg = a.1.1.1.0 }

  pub new_buildable : first_of (late_tests n m degrees) ≡ None → Buildable n m degrees
  unfolding too_many too_high
  new_buildable l = let s = sizes_small n m large.0 in record {
    n_small = s.0;
    m_small = s.1;
    long = new_long;
    low = λ v h. ltb-false m (nth degrees v) (any_below_not n v (λ v. ltb m (nth degrees v)) (pass (too_high n m degrees) DegreeTooHigh [] (pass (too_many n degrees) DegreeSum ((too_high n m degrees, DegreeTooHigh) ∷ []) l).1).0 h);
    sum = ltb-false 512 (total n (nth degrees)) (pass (too_many n degrees) DegreeSum ((too_high n m degrees, DegreeTooHigh) ∷ []) l).0;
  }
