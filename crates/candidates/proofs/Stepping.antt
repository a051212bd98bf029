-- The candidates step by step: which alternatives the first steps flip, what a step makes of the word and of the best, and that the best is one of the candidates.
-- Assumes nothing.
use Prim.Native.Nat.{ℕ, zero, suc, ◌+◌, ◌/◌, ◌%◌, ◌^◌, ◌<◌, ◌≤◌}
use mathlib.Core.Path.{◌≡◌, refl, sym, ap, ◌∙◌}
use mathlib.Core.Logic.{◌⊎◌, inl, inr, ⊎_elim}
use mathlib.Core.List.{List}
use native.Mathlib.Nat.{pow-suc}
use native.Mathlib.Numerals.{add-one}
use native.Mathlib.Omega.{arith}
use lib.Count.{count_trailing_zeros}
use lib.Ieee.{Float}
use Rattle.lists.proofs.Cases.{same_or_not}
use Rattle.lists.proofs.Choice.{pick_either}
use Rattle.lists.proofs.Iter.{iter_start, iter_more, iter_ext}
use Rattle.words.specs.Linear.{sum_of}
use Rattle.candidates.specs.Tried.{Tried, beginning, flipped, compared, step, tried}

-- ---- the place of the lowest digit that is 1

pub digit_cases : (n : ℕ) → (n % 2 ≡ 0) ⊎ (n % 2 ≡ 1)
digit_cases n = ⊎_elim (λ e. inl e) (λ e. inr (omega (arith, e))) (same_or_not (n % 2) 0)

pub trailing_even : (k n : ℕ) → n % 2 ≡ 0 → count_trailing_zeros (suc k) n ≡ suc (count_trailing_zeros k (n / 2))
unfolding count_trailing_zeros
trailing_even k n e = rw e

pub trailing_odd : (k n : ℕ) → n % 2 ≡ 1 → count_trailing_zeros (suc k) n ≡ 0
unfolding count_trailing_zeros
trailing_odd k n e = rw e

-- of a number of w digits that is not 0
pub trailing_below : (k w n : ℕ) → w ≤ k → 0 < n → n < 2 ^ w → count_trailing_zeros k n < w
trailing_below k zero n h p l = absurd (omega arith)
trailing_below zero (suc w) n h p l = absurd (omega arith)
trailing_below (suc k) (suc w) n h p l =
    let q = pow-suc 2 w in
    ⊎_elim
    (λ e. omega (arith, trailing_even k n e, trailing_below k w (n / 2) (omega arith) (omega arith) (omega arith)))
    (λ e. omega (arith, trailing_odd k n e))
    (digit_cases n)

-- ---- a step

step_word : (metrics : List Float) (g : List ℕ) (s : Tried) → (compared (flipped metrics g s)).word ≡ sum_of s.word g
unfolding compared flipped
step_word metrics g s = pick_either (λ (t : Tried). t.word ≡ sum_of s.word g) _ _ _ (λ _. refl) refl

module _ (metrics : List Float) (gens : ℕ → List ℕ) (base : List ℕ) where
  -- the candidate after so many steps
  abbrev after : ℕ → List ℕ
  after i = (tried metrics gens base i).word

  pub tried_first : tried metrics gens base 0 ≡ beginning metrics base
  unfolding tried
  tried_first = sym (iter_start (step metrics gens) (beginning metrics base))

  pub tried_next : (i : ℕ) → tried metrics gens base (i + 1) ≡ step metrics gens i (tried metrics gens base i)
  unfolding tried
  tried_next i = iter_more i (step metrics gens) (beginning metrics base)

  pub word_start : (tried metrics gens base 0).word ≡ base
  unfolding beginning
  word_start = ap (λ (s : Tried). s.word) tried_first

  pub word_on : (i : ℕ) → (tried metrics gens base (i + 1)).word ≡ sum_of (tried metrics gens base i).word (gens (count_trailing_zeros 32 (i + 1)))
  word_on i = ap (λ (s : Tried). s.word) (tried_next i) ∙ step_word metrics (gens (count_trailing_zeros 32 (i + 1))) (tried metrics gens base i)

  -- what holds of the base and is kept by each step holds of every candidate
  pub word_keeps {ℓ} : (P : List ℕ → Type ℓ) (steps : ℕ) → P base → ((i : ℕ) → i < steps → (x : List ℕ) → P x → P (sum_of x (gens (count_trailing_zeros 32 (i + 1)))))
      → P (tried metrics gens base steps).word
  word_keeps P zero b f = rw word_start b
  word_keeps P (suc i) b f = rw (← add-one i, word_on i) (f i (omega arith) (after i) (word_keeps P i b (λ j h. f j (omega arith))))

-- generators that agree where the steps look
pub tried_ext : (metrics : List Float) (gens gens' : ℕ → List ℕ) (base : List ℕ) (w steps : ℕ) → w ≤ 32 → steps < 2 ^ w → ((j : ℕ) → j < w → gens j ≡ gens' j)
    → tried metrics gens base steps ≡ tried metrics gens' base steps
unfolding tried
tried_ext metrics gens gens' base w steps h l e =
    iter_ext steps (step metrics gens) (step metrics gens') (beginning metrics base)
    (λ i b s. ap (λ (g : List ℕ). compared (flipped metrics g s)) (e (count_trailing_zeros 32 (i + 1)) (trailing_below 32 w (i + 1) h (omega arith) (omega arith))))
