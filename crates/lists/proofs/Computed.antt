-- A rule proved at each number below a bound by one test that antt computes: of one number and of two.
-- Assumes nothing.
use mathlib.Core.Path.{◌≡◌, sym, subst}
use mathlib.Core.Bool.{Bool, true, ◌&&◌}
use mathlib.Core.Logic.{◌⊎◌, inl, inr}
use Prim.Native.Nat.{ℕ, zero, suc, ◌<◌}
use native.Mathlib.Nat.{eq-or-lt_of_le, le_of_suc-le-suc, not-suc-le-zero}
use lib.Dec.{T, eqb, eqb→eq}
use Rattle.lists.proofs.Cases.{and_parts}

-- the test passes at each number below n
abbrev pub all_below : ℕ → (ℕ → Bool) → Bool
all_below zero test = true
all_below (suc n) test = test n && all_below n test

pub all_below_at : (n : ℕ) (test : ℕ → Bool) → T (all_below n test) → (k : ℕ) → k < n → T (test k)
all_below_at zero test t k h = absurd (not-suc-le-zero h)
all_below_at (suc n) test t k h = go (all_below_at n test (and_parts (test n) (all_below n test) t).1 k) (eq-or-lt_of_le (le_of_suc-le-suc h))
  where
    go : (k < n → T (test k)) → (k ≡ n) ⊎ (k < n) → T (test k)
    go ih (inl e) = subst (λ (x : ℕ). T (test x)) (sym e) (and_parts (test n) (all_below n test) t).0
    go ih (inr l) = ih l

-- at each pair below n
pub all_below_at2 : (n : ℕ) (test : ℕ → ℕ → Bool) → T (all_below n (λ a. all_below n (test a))) → (a b : ℕ) → a < n → b < n → T (test a b)
all_below_at2 n test t a b ha hb = all_below_at n (test a) (all_below_at n (λ x. all_below n (test x)) t a ha) b hb

pub equal1 : (n : ℕ) (f g : ℕ → ℕ) → T (all_below n (λ a. eqb (f a) (g a))) → (a : ℕ) → a < n → f a ≡ g a
equal1 n f g t a ha = eqb→eq (f a) (g a) (all_below_at n (λ x. eqb (f x) (g x)) t a ha)

pub equal2 : (n : ℕ) (f g : ℕ → ℕ → ℕ) → T (all_below n (λ a. all_below n (λ b. eqb (f a b) (g a b)))) → (a b : ℕ) → a < n → b < n → f a b ≡ g a b
equal2 n f g t a b ha hb = eqb→eq (f a b) (g a b) (all_below_at2 n (λ x y. eqb (f x y) (g x y)) t a b ha hb)
