-- The four rates are rates, and their numbers of checks are those of their rows.
-- Assumes nothing.
use Prim.Native.Nat.{ℕ, zero, suc, ◌<◌, ◌≤◌}
use mathlib.Core.Path.{◌≡◌, refl, sym, subst}
use mathlib.Core.List.{[], ◌∷◌}
use native.Mathlib.Omega.{arith}
use borrow.Author.Tests.{ltb-false, le-ltb}
use lib.Dec.{ltb}
use Rattle.std.specs.Prelude.{None, Ok}
use Rattle.lists.specs.Entry.{nth}
use Rattle.lists.specs.Total.{total}
use Rattle.lists.proofs.AnyBelow.{any_below_not, any_below_none}
use Rattle.calls.specs.Refusal.{first_of, answered}
use Rattle.calls.specs.declared.Refusal.TheVariants.{RateOrLayout, DegreeSum, DegreeTooHigh}
use Rattle.calls.proofs.Refusals.{pass, by_ok, first_miss}
use Rattle.field.specs.DegreeRows.{degree_rows, degree_row}
use Rattle.graph.specs.New.{too_many, too_high}
use Rattle.graph.proofs.Ends.{late_tests}
use Rattle.rates.specs.declared.Rate.{Rate}
use Rattle.rates.specs.Rate.{checks, rate_degrees, rate_of, IsRate}
use Rattle.rates.specs.NFor.{rate_refusals}
use Rattle.rates.proofs.RateDegrees.{degrees-length, is_rate}

pub rates_are : (rate : ℕ) → rate < 4 → IsRate (rate_of rate)
unfolding rate_of degree_row degree_rows
rates_are zero h = is_rate (rate_of 0) (omega arith) (omega arith) (omega arith) (omega arith) (λ _. omega arith)
rates_are (suc zero) h = is_rate (rate_of 1) (omega arith) (omega arith) (omega arith) (omega arith) (λ _. omega arith)
rates_are (suc (suc zero)) h = is_rate (rate_of 2) (omega arith) (omega arith) (omega arith) (omega arith) (λ _. omega arith)
rates_are (suc (suc (suc zero))) h = is_rate (rate_of 3) (omega arith) (omega arith) (omega arith) (omega arith) (λ _. omega arith)
rates_are (suc (suc (suc (suc k)))) h = absurd (let l : suc (suc (suc (suc k))) < 4 = h in omega arith)

pub row_checks : (rate : ℕ) → rate < 4 → (degree_row rate).m ≡ checks (rate_of rate)
unfolding rate_of degree_row degree_rows
row_checks zero h = refl
row_checks (suc zero) h = refl
row_checks (suc (suc zero)) h = refl
row_checks (suc (suc (suc zero))) h = refl
row_checks (suc (suc (suc (suc k)))) h = absurd (let l : suc (suc (suc (suc k))) < 4 = h in omega arith)

-- what a number's test leaves is a rate
pub of_rate : (rate : ℕ) {r : Rate} → Ok r ≡ answered (first_of (rate_refusals rate)) (rate_of rate) → IsRate r
of_rate rate e =
    let b = by_ok (first_of (rate_refusals rate)) (rate_of rate) e in
    let p = pass (ltb 3 rate) RateOrLayout [] b.0 in
    subst IsRate (sym b.1) (rates_are rate (let l = ltb-false 3 rate p.0 in omega arith))

-- ---- a record that refusals 4 and 5 pass, and no other of these sizes, is a rate

pub tested_rate : (r : Rate) → 54 ≤ r.n → r.n ≤ 256 → first_of (late_tests r.n (checks r) (rate_degrees r)) ≡ None → IsRate r
unfolding too_many too_high
tested_rate r long short e =
    let m = checks r in
    let many = pass (ltb 512 (total r.n (nth (rate_degrees r)))) DegreeSum ((too_high r.n m (rate_degrees r), DegreeTooHigh) ∷ []) e in
    let high = pass (too_high r.n m (rate_degrees r)) DegreeTooHigh [] many.1 in
    record {
      long = long;
      buildable = record {
        n_small = short;
        m_small = omega arith;
        long = degrees-length r;
        low = λ v h. ltb-false m (nth (rate_degrees r) v) (any_below_not r.n v (λ v. ltb m (nth (rate_degrees r) v)) high.0 h);
        sum = ltb-false 512 (total r.n (nth (rate_degrees r))) many.0;
      };
    }

pub rate_passes : (r : Rate) → IsRate r → first_of (late_tests r.n (checks r) (rate_degrees r)) ≡ None
unfolding too_many too_high
rate_passes r ok =
    let m = checks r in
    sym
    (first_miss DegreeSum ((too_high r.n m (rate_degrees r), DegreeTooHigh) ∷ []) refl (le-ltb 512 (total r.n (nth (rate_degrees r))) ok.buildable.sum)
    (first_miss DegreeTooHigh [] refl
    (any_below_none r.n (λ v. ltb m (nth (rate_degrees r) v)) (λ v h. le-ltb m (nth (rate_degrees r) v) (ok.buildable.low v h))) refl))
