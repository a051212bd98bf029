-- Laws of the sum of numbers.
-- Assumes nothing.
use Prim.Native.Nat.{ℕ, zero, suc, ◌+◌, ◌<◌, ◌≤◌}
use mathlib.Core.Path.{◌≡◌, refl, ap₂, sym, ◌∙◌}
use native.Mathlib.Nat.{le_refl, le_step}
use native.Mathlib.Omega.{arith}
use Rattle.lists.specs.Iter.{iter}
use Rattle.lists.specs.Total.{total}
use Rattle.lists.proofs.Iter.{iter_more}
use Rattle.lists.proofs.Rising.{rises}

module _ (f : ℕ → ℕ) where
  pub total_none : total 0 f ≡ 0
  unfolding total iter
  total_none = refl

  pub total-suc : (n : ℕ) → total (suc n) f ≡ total n f + f n
  unfolding total iter
  total-suc n = refl

  pub total_more : (n : ℕ) → total (n + 1) f ≡ total n f + f n
  unfolding total
  total_more n = iter_more n (λ k s. s + f k) 0

  pub total_up : (n k : ℕ) → k ≤ n → total k f ≤ total n f
  total_up n k h = rises n (λ i. total i f) (λ i l. omega (arith, total_more i)) k n h (le_refl n)

  -- each of them is below the sum
  pub total_part : (n k : ℕ) → k < n → total k f + f k ≤ total n f
  total_part n k h = omega (arith, total_more k, total_up n (k + 1) (omega arith))

pub total_ext : (n : ℕ) (f g : ℕ → ℕ) → ((k : ℕ) → k < n → f k ≡ g k) → total n f ≡ total n g
total_ext zero f g e = total_none f ∙ sym (total_none g)
total_ext (suc n) f g e = total-suc f n ∙ ap₂ (λ (x y : ℕ). x + y) (total_ext n f g (λ k h. e k (le_step h))) (e n (le_refl (suc n))) ∙ sym (total-suc g n)

pub total-zero : (n : ℕ) → total n (λ _. 0) ≡ 0
total-zero zero = total_none (λ _. 0)
total-zero (suc n) = let i = total-zero n in let a = total-suc (λ _. 0) n in omega arith

pub total_plus : (n : ℕ) (f g : ℕ → ℕ) → total n (λ k. f k + g k) ≡ total n f + total n g
total_plus zero f g = let a = total_none (λ k. f k + g k) in let b = total_none f in let c = total_none g in omega arith
total_plus (suc n) f g =
    let i = total_plus n f g in
    let a = total-suc (λ k. f k + g k) n in
    let b = total-suc f n in
    let c = total-suc g n in
    omega arith

-- by rows or by columns
pub total_swap : (m n : ℕ) (f : ℕ → ℕ → ℕ) → total m (λ c. total n (f c)) ≡ total n (λ u. total m (λ c. f c u))
total_swap zero n f = total_none (λ c. total n (f c)) ∙ sym (total_ext n (λ u. total 0 (λ c. f c u)) (λ _. 0) (λ u h. total_none (λ c. f c u)) ∙ total-zero n)
total_swap (suc m) n f =
    let i = total_swap m n f in
    let a = total-suc (λ c. total n (f c)) m in
    let b = total_ext n (λ u. total (suc m) (λ c. f c u)) (λ u. total m (λ c. f c u) + f m u) (λ u h. total-suc (λ c. f c u) m) in
    let p = total_plus n (λ u. total m (λ c. f c u)) (f m) in
    omega arith
