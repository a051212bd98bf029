-- The first of given values that passes a test, as a loop looks for it: none of the first j passes.
-- Assumes nothing.
use mathlib.Core.Path.{◌≡◌, sym, ap, ap₂, ◌∙◌}
use mathlib.Core.Bool.{Bool, true, false}
use mathlib.Core.List.{List, [], ◌++◌}
use Prim.Native.Nat.{ℕ, ◌+◌, ◌-◌, ◌<◌}
use native.Mathlib.Omega.{arith}
use Rattle.lists.specs.Entry.{nth}
use Rattle.lists.specs.Keep.{keep}
use Rattle.lists.specs.Values.{values}
use Rattle.lists.proofs.Choice.{pick-true, pick-false}
use Rattle.lists.proofs.Keep.{keep-append, keep_one}
use Rattle.lists.proofs.Values.{values_none, values_more, values-add}

module _ (test : ℕ → Bool) (f : ℕ → ℕ) where
  pub first_start : keep test (values 0 f) ≡ []
  unfolding keep
  first_start = ap (keep test) (values_none f)

  pub first_on : (j : ℕ) → test (f j) ≡ false → keep test (values j f) ≡ [] → keep test (values (j + 1) f) ≡ []
  first_on j t e = ap (keep test) (values_more f j) ∙ keep-append test _ _ ∙ ap₂ (λ (a b : List ℕ). a ++ b) e (keep_one test (f j) ∙ pick-false (test (f j)) _ _ t)

  pub first_hit : (k j : ℕ) → j < k → test (f j) ≡ true → keep test (values j f) ≡ [] → f j ≡ nth (keep test (values k f)) 0
  first_hit k j h t e =
      let q : k ≡ j + 1 + (k - (j + 1)) = omega arith in
      let one = ap (keep test) (values_more f j) ∙ keep-append test _ _ ∙ ap₂ (λ (a b : List ℕ). a ++ b) e (keep_one test (f j) ∙ pick-true (test (f j)) _ _ t) in
      sym (ap (λ (l : List ℕ). nth l 0)
      (ap (λ (n : ℕ). keep test (values n f)) q ∙ ap (keep test) (values-add (j + 1) (k - (j + 1)) f) ∙ keep-append test _ _
      ∙ ap (λ (l : List ℕ). l ++ keep test (values (k - (j + 1)) (λ i. f (j + 1 + i)))) one))
