-- Laws of the search that answers where: what it finds, and as a loop runs it, by the code's numbers: p of the numbers below m are tried.
-- Assumes nothing.
use mathlib.Core.Path.{◌≡◌, refl, sym, ap, ap₂, ◌∙◌}
use mathlib.Core.Logic.{⊎_elim}
use mathlib.Core.Bool.{Bool, true, false}
use Prim.Native.Nat.{ℕ, zero, suc, ◌+◌, ◌-◌, ◌<◌, ◌≤◌}
use native.Mathlib.Nat.{le_refl}
use native.Mathlib.Numerals.{add-one}
use native.Mathlib.Omega.{arith}
use Rattle.lists.specs.Choice.{pick}
use Rattle.lists.specs.Lowest.{lowest}
use Rattle.lists.proofs.Cases.{true_or_false, same_or_not}
use Rattle.lists.proofs.Choice.{pick-true, pick-false}

pub record IsLowest (test : ℕ → Bool) (k r p : ℕ) : Type 0 where
  pub from : r ≤ p
  pub to : p ≤ r + k
  pub none : (i : ℕ) → r ≤ i → i < p → test i ≡ false
  pub found : p < r + k → test p ≡ true

module _ (test : ℕ → Bool) where
  stop : (k r : ℕ) → test r ≡ true → lowest test (suc k) r ≡ r
  unfolding lowest
  stop k r t = pick-true (test r) r (lowest test k (suc r)) t

  pass : (k r : ℕ) → test r ≡ false → lowest test (suc k) r ≡ lowest test k (suc r)
  unfolding lowest
  pass k r t = pick-false (test r) r (lowest test k (suc r)) t

  pub lowest_is : (k r : ℕ) → IsLowest test k r (lowest test k r)
  unfolding lowest
  lowest_is zero r = record { from = le_refl r; to = omega arith; none = λ i a b. absurd (omega arith); found = λ a. absurd (omega arith) }
  lowest_is (suc k) r =
      ⊎_elim
      (λ t. rw (stop k r t) (record { from = le_refl r; to = omega arith; none = λ i a b. absurd (omega arith); found = λ a. t }))
      (λ t.
      let w = lowest_is k (suc r) in
      rw (pass k r t)
      (record {
        from = omega (arith, w.from);
        to = omega (arith, w.to);
        none = λ i a b. ⊎_elim (λ e. ap test e ∙ t) (λ n. w.none i (omega (arith, n)) b) (same_or_not i r);
        found = λ a. w.found (omega arith);
      }))
      (true_or_false (test r))

  -- ---- as a loop runs it

  pub lowest_on : (m p w : ℕ) → p < m → test p ≡ false → lowest test (m - p) p ≡ w → lowest test (m - (p + 1)) (p + 1) ≡ w
  lowest_on m p w h t e =
      let z : m - p ≡ suc (m - (p + 1)) = omega arith in
      ap (lowest test (m - (p + 1))) (add-one p) ∙ sym (pass (m - (p + 1)) p t) ∙ (rw z at e)

  pub lowest_hit : (m p w : ℕ) → p < m → test p ≡ true → lowest test (m - p) p ≡ w → p ≡ w
  lowest_hit m p w h t e =
      let z : m - p ≡ suc (m - (p + 1)) = omega arith in
      sym (stop (m - (p + 1)) p t) ∙ (rw z at e)

  pub lowest_end : (m p w : ℕ) → m ≤ p → lowest test (m - p) p ≡ w → p ≡ w
  unfolding lowest
  lowest_end m p w h e = let z : m - p ≡ 0 = omega arith in rw z at e

-- tests that agree where it searches
pub lowest_ext : (f g : ℕ → Bool) (k r : ℕ) → ((i : ℕ) → r ≤ i → i < r + k → f i ≡ g i) → lowest f k r ≡ lowest g k r
unfolding lowest
lowest_ext f g zero r e = refl
lowest_ext f g (suc k) r e =
    ap₂ (λ (x : Bool) (y : ℕ). pick x r y) (e r (le_refl r) (omega arith)) (lowest_ext f g k (suc r) (λ i a b. e i (omega arith) (omega arith)))
