-- Laws of the search from 0 on: as a loop runs it, and what its answer says.
-- Assumes nothing.
use Prim.Native.Nat.{ℕ, zero, suc, ◌+◌, ◌<◌}
use mathlib.Core.Path.{◌≡◌, refl, sym}
use mathlib.Core.Bool.{Bool, true, false, or-true, false≢true}
use mathlib.Core.Logic.{⊎_elim}
use native.Mathlib.Nat.{eq-or-lt_of_le, le_of_suc-le-suc, le_refl, not-suc-le-zero}
use native.Mathlib.Numerals.{add-one}
use native.Mathlib.Omega.{arith}
use Rattle.lists.specs.AnyBelow.{any_below}
use Rattle.lists.proofs.Cases.{neither, true_or_false}

-- ---- as a loop runs it

pub any_below_start : (test : ℕ → Bool) → any_below 0 test ≡ false
unfolding any_below
any_below_start test = refl

pub any_below_on : (k : ℕ) (test : ℕ → Bool) → test k ≡ false → any_below k test ≡ false → any_below (k + 1) test ≡ false
unfolding any_below
any_below_on k test e h = rw (add-one, e, h)

pub any_below_hit : (n k : ℕ) (test : ℕ → Bool) → k < n → test k ≡ true → true ≡ any_below n test
unfolding any_below
any_below_hit zero k test l e = absurd (not-suc-le-zero l)
any_below_hit (suc n) k test l e =
    ⊎_elim
    (λ q. let z : test n ≡ true = (rw q at e) in rw z)
    (λ q. rw (← any_below_hit n k test q e, or-true))
    (eq-or-lt_of_le (le_of_suc-le-suc l))

pub any_below_end : (n k : ℕ) (test : ℕ → Bool) → k ≡ n → any_below k test ≡ false → false ≡ any_below n test
any_below_end n k test e h = sym (rw e at h)

-- ---- what its answer says

pub any_below_not : (n k : ℕ) (test : ℕ → Bool) → any_below n test ≡ false → k < n → test k ≡ false
unfolding any_below
any_below_not zero k test h l = absurd (not-suc-le-zero l)
any_below_not (suc n) k test h l =
    ⊎_elim
    (λ q. rw q (neither (test n) (any_below n test) h).0)
    (λ q. any_below_not n k test (neither (test n) (any_below n test) h).1 q)
    (eq-or-lt_of_le (le_of_suc-le-suc l))

pub any_below_none : (n : ℕ) (test : ℕ → Bool) → ((k : ℕ) → k < n → test k ≡ false) → any_below n test ≡ false
unfolding any_below
any_below_none zero test f = refl
any_below_none (suc n) test f = rw (f n (le_refl (suc n)), any_below_none n test (λ k h. f k (omega arith)))

pub any_below_some : (n : ℕ) (test : ℕ → Bool) → any_below n test ≡ true → (k : ℕ) × (k < n) × (test k ≡ true)
unfolding any_below
any_below_some zero test e = absurd (false≢true e)
any_below_some (suc n) test e =
    ⊎_elim
    (λ t. (n, le_refl (suc n), t))
    (λ t. let r = any_below_some n test (rw t at e) in (r.0, omega (arith, r.1), r.2))
    (true_or_false (test n))

pub any_below_ext : (n : ℕ) (f g : ℕ → Bool) → ((k : ℕ) → k < n → f k ≡ g k) → any_below n f ≡ any_below n g
unfolding any_below
any_below_ext zero f g e = refl
any_below_ext (suc n) f g e = rw (e n (le_refl (suc n)), any_below_ext n f g (λ k h. e k (omega arith)))
