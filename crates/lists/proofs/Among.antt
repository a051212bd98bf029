-- Which numbers are among f 0, .., f (r - 1), and how many of those below n: r, where all are below n and no two the same; so n - r are not.
-- Assumes nothing.
use mathlib.Core.Path.{◌≡◌, refl, sym, ap, ◌∙◌}
use mathlib.Core.Logic.{◌≢◌, ◌⊎◌, inl, inr, ⊎_elim}
use mathlib.Core.Bool.{true, false, not}
use Prim.Native.Nat.{ℕ, zero, suc, ◌+◌, ◌<◌}
use native.Mathlib.Nat.{le_refl, le_step, not-suc-le-zero}
use native.Mathlib.Omega.{arith}
use borrow.Author.Tests.{eq-eqb, ne_eqb, eqb-true, eqb-false}
use lib.Dec.{eqb}
use lib.ListN.{length}
use Rattle.lists.specs.Among.{among}
use Rattle.lists.specs.Keep.{keep_below}
use Rattle.lists.proofs.Cases.{same_or_not, true_or_false}
use Rattle.lists.proofs.AnyBelow.{any_below_hit, any_below_not, any_below_none, any_below_some}
use Rattle.lists.proofs.Keep.{keep_below_no, keep_below_empty, keep_below_split}
use Rattle.lists.proofs.Tally.{one_more}

module _ (r : ℕ) (f : ℕ → ℕ) (j : ℕ) where
  pub among-true : among r f j ≡ true → (t : ℕ) × (t < r) × (f t ≡ j)
  unfolding among
  among-true e = let w = any_below_some r (λ t. eqb (f t) j) e in (w.0, w.1, eqb-true (f w.0) j w.2)

  pub among-false : among r f j ≡ false → (t : ℕ) → t < r → f t ≢ j
  unfolding among
  among-false e t h = eqb-false (f t) j (any_below_not r t (λ t. eqb (f t) j) e h)

  pub true-among : (t : ℕ) → t < r → f t ≡ j → among r f j ≡ true
  unfolding among
  true-among t h e = sym (any_below_hit r t (λ t. eqb (f t) j) h (eq-eqb (f t) j e))

  pub false-among : ((t : ℕ) → t < r → f t ≢ j) → among r f j ≡ false
  unfolding among
  false-among n = any_below_none r (λ t. eqb (f t) j) (λ t h. ne_eqb (f t) j (n t h))

  pub among_or_not : ((t : ℕ) × (t < r) × (f t ≡ j)) ⊎ ((t : ℕ) → t < r → f t ≢ j)
  among_or_not = ⊎_elim (λ e. inl (among-true e)) (λ e. inr (among-false e)) (true_or_false (among r f j))

-- ---- counting

pub among_count : (n r : ℕ) (f : ℕ → ℕ) → ((t : ℕ) → t < r → f t < n) → ((t v : ℕ) → t < r → v < r → f t ≡ f v → t ≡ v) → length (keep_below (among r f) n) ≡ r
among_count n zero f a d = none n
  where
    none : (m : ℕ) → length (keep_below (among 0 f) m) ≡ 0
    none zero = keep_below_empty (among 0 f)
    none (suc m) = ap length (keep_below_no (among 0 f) m (false-among 0 f m (λ t h. absurd (not-suc-le-zero h)))) ∙ none m
among_count n (suc r) f a d =
    let i = among_count n r f (λ t h. a t (le_step h)) (λ t v h l. d t v (le_step h) (le_step l)) in
    one_more (among r f) (among (suc r) f) (f r)
    (false-among r f (f r) (λ t h e. let q = d t r (le_step h) (le_refl (suc r)) e in omega arith))
    (true-among (suc r) f (f r) r (le_refl (suc r)) refl)
    (λ j k. ⊎_elim
    (λ w. true-among (suc r) f j w.0 (le_step w.1) w.2 ∙ sym (true-among r f j w.0 w.1 w.2))
    (λ w. false-among (suc r) f j (λ t h e. ⊎_elim (λ q. k (sym e ∙ ap f q)) (λ q. w t (omega (arith, q)) e) (same_or_not t r)) ∙ sym (false-among r f j w))
    (among_or_not r f j))
    n (a r (le_refl (suc r)))
    ∙ ap suc i

-- and those that are not among them are the rest
pub others_count : (n r : ℕ) (f : ℕ → ℕ) → ((t : ℕ) → t < r → f t < n) → ((t v : ℕ) → t < r → v < r → f t ≡ f v → t ≡ v) → r + length (keep_below (λ j. not (among r f j)) n) ≡ n
others_count n r f a d = let s = keep_below_split (among r f) n in let c = among_count n r f a d in omega arith
