-- A rule that gives n positions below n, no two the same, gives each of them; and the tests for it say so.
-- Assumes nothing.
use mathlib.Core.Path.{◌≡◌, sym, ◌∙◌}
use mathlib.Core.Logic.{◌≢◌, ◌⊎◌, inl, inr, ⊎_elim}
use mathlib.Core.Bool.{true, false, ◌||◌}
use Prim.Native.Nat.{ℕ, zero, suc, ◌<◌}
use native.Mathlib.Nat.{le_refl, not-suc-le-zero}
use native.Mathlib.Omega.{arith}
use borrow.Author.Tests.{ne_eqb, eqb-false, lt-leb, leb-false, not-true}
use lib.Dec.{eqb, leb}
use Rattle.lists.specs.AnyBelow.{any_below}
use Rattle.lists.specs.Choice.{pick}
use Rattle.lists.specs.EachOnce.{EachOnce, outside, repeated, each_once}
use Rattle.lists.proofs.Cases.{same_or_not, less_or_not, neither}
use Rattle.lists.proofs.Choice.{pick_same, pick_other}
use Rattle.lists.proofs.AnyBelow.{any_below_not, any_below_none}
use Rattle.lists.proofs.Among.{among_or_not}

-- ---- the pigeonhole step

-- n + 1 numbers below n: two are the same
pub pigeonhole : (n : ℕ) (f : ℕ → ℕ) → ((t : ℕ) → t < suc n → f t < n) → ((t v : ℕ) → t < suc n → v < suc n → f t ≡ f v → t ≡ v) → ⊥
pigeonhole zero f a b = not-suc-le-zero (a 0 (omega arith))
pigeonhole (suc n) f a b = pigeonhole n g inside distinct
  where
    -- the last one's number takes the place of n
    g : ℕ → ℕ
    g t = pick (eqb (f t) n) (f (suc n)) (f t)

    at : (t : ℕ) → f t ≡ n → g t ≡ f (suc n)
    at t e = pick_same (f t) n (f (suc n)) (f t) e

    off : (t : ℕ) → f t ≢ n → g t ≡ f t
    off t k = pick_other (f t) n (f (suc n)) (f t) k

    last : (t : ℕ) → t < suc n → f t ≢ f (suc n)
    last t h e = let q = b t (suc n) (omega arith) (le_refl (suc (suc n))) e in omega arith

    inside : (t : ℕ) → t < suc n → g t < n
    inside t h =
        ⊎_elim
        (λ e. rw (at t e) (omega (arith, last t h, a (suc n) (le_refl (suc (suc n))))))
        (λ k. rw (off t k) (omega (arith, k, a t (omega arith))))
        (same_or_not (f t) n)

    distinct : (t v : ℕ) → t < suc n → v < suc n → g t ≡ g v → t ≡ v
    distinct t v h l q = go (same_or_not (f t) n) (same_or_not (f v) n)
      where
        go : (f t ≡ n) ⊎ (f t ≢ n) → (f v ≡ n) ⊎ (f v ≢ n) → t ≡ v
        go (inl e) (inl e') = b t v (omega arith) (omega arith) (e ∙ sym e')
        go (inl e) (inr k) = absurd (last v l (sym (sym (at t e) ∙ q ∙ off v k)))
        go (inr k) (inl e) = absurd (last t h (sym (off t k) ∙ q ∙ at v e))
        go (inr k) (inr k') = b t v (omega arith) (omega arith) (sym (off t k) ∙ q ∙ off v k')

-- ---- each position is there

pub each_once_has : (n : ℕ) (f : ℕ → ℕ) → EachOnce n f → (j : ℕ) → j < n → (t : ℕ) × (t < n) × (f t ≡ j)
each_once_has n f w j h = go (among_or_not n f j)
  where
    go : ((t : ℕ) × (t < n) × (f t ≡ j)) ⊎ ((t : ℕ) → t < n → f t ≢ j) → (t : ℕ) × (t < n) × (f t ≡ j)
    go (inl r) = r
    go (inr none) = absurd (pigeonhole n g inside distinct)
      where
        -- j as one more
        g : ℕ → ℕ
        g t = pick (eqb t n) j (f t)

        at : (t : ℕ) → t ≡ n → g t ≡ j
        at t e = pick_same t n j (f t) e

        off : (t : ℕ) → t ≢ n → g t ≡ f t
        off t k = pick_other t n j (f t) k

        inside : (t : ℕ) → t < suc n → g t < n
        inside t l = ⊎_elim (λ e. rw (at t e) h) (λ k. rw (off t k) (w.inside t (omega (arith, k)))) (same_or_not t n)

        distinct : (t v : ℕ) → t < suc n → v < suc n → g t ≡ g v → t ≡ v
        distinct t v l m q = by (same_or_not t n) (same_or_not v n)
          where
            by : (t ≡ n) ⊎ (t ≢ n) → (v ≡ n) ⊎ (v ≢ n) → t ≡ v
            by (inl e) (inl e') = e ∙ sym e'
            by (inl e) (inr y) = absurd (none v (omega (arith, y)) (sym (sym (at t e) ∙ q ∙ off v y)))
            by (inr y) (inl e) = absurd (none t (omega (arith, y)) (sym (off t y) ∙ q ∙ at v e))
            by (inr y) (inr z) = w.distinct t v (omega (arith, y)) (omega (arith, z)) (sym (off t y) ∙ q ∙ off v z)

-- ---- the tests

module _ (n : ℕ) (f : ℕ → ℕ) where
  pub not_outside : (m : ℕ) → outside m n f ≡ false → (t : ℕ) → t < n → f t < m
  unfolding outside
  not_outside m e t h = leb-false m (f t) (any_below_not n t (λ t. leb m (f t)) e h)

  apart : repeated n f ≡ false → (t v : ℕ) → t < n → v < t → f t ≢ f v
  unfolding repeated
  apart e t v h l = eqb-false (f t) (f v) (any_below_not t v (λ v. eqb (f t) (f v)) (any_below_not n t (λ t. any_below t (λ v. eqb (f t) (f v))) e h) l)

  pub not_repeated : repeated n f ≡ false → (t v : ℕ) → t < n → v < n → f t ≡ f v → t ≡ v
  not_repeated e t v h l q =
      ⊎_elim
      (λ a. absurd (apart e v t l a (sym q)))
      (λ a. ⊎_elim (λ d. d) (λ d. absurd (apart e t v h (omega (arith, d)) q)) (same_or_not t v))
      (less_or_not t v)

  pub each_once-true : each_once n f ≡ true → EachOnce n f
  unfolding each_once
  each_once-true e = let b = neither (outside n n f) (repeated n f) (not-true (outside n n f || repeated n f) e) in record { inside = not_outside n b.0; distinct = not_repeated b.1 }

  pub none_outside : (m : ℕ) → ((t : ℕ) → t < n → f t < m) → outside m n f ≡ false
  unfolding outside
  none_outside m i = any_below_none n (λ t. leb m (f t)) (λ t h. lt-leb m (f t) (i t h))

  pub none_repeated : ((t v : ℕ) → t < n → v < n → f t ≡ f v → t ≡ v) → repeated n f ≡ false
  unfolding repeated
  none_repeated d =
      any_below_none n (λ t. any_below t (λ v. eqb (f t) (f v)))
      (λ t h. any_below_none t (λ v. eqb (f t) (f v)) (λ v l. ne_eqb (f t) (f v) (λ q. let e = d t v h (omega arith) q in omega arith)))

  pub true-each_once : EachOnce n f → each_once n f ≡ true
  unfolding each_once
  true-each_once w = rw (none_outside n w.inside, none_repeated w.distinct)

-- ---- two rules that agree below n, and a rule that ascends

pub each_once_ext : (n : ℕ) (f g : ℕ → ℕ) → ((t : ℕ) → t < n → f t ≡ g t) → EachOnce n g → EachOnce n f
each_once_ext n f g e w = record {
  inside = λ t h. omega (arith, e t h, w.inside t h);
  distinct = λ t v h l q. w.distinct t v h l (sym (e t h) ∙ q ∙ e v l);
}

pub ascends_distinct : (n : ℕ) (f : ℕ → ℕ) → ((t v : ℕ) → t < v → v < n → f t < f v) → (t v : ℕ) → t < n → v < n → f t ≡ f v → t ≡ v
ascends_distinct n f a t v h l q =
    ⊎_elim
    (λ b. absurd (omega (arith, a t v b l)))
    (λ b. ⊎_elim (λ e. e) (λ e. absurd (omega (arith, a v t (omega (arith, e)) h))) (same_or_not t v))
    (less_or_not t v)
