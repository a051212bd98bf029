-- Laws of the counting loop, by the code's numbers.
-- Assumes nothing.
use Prim.Native.Nat.{ℕ, zero, suc, ◌+◌, ◌<◌}
use mathlib.Core.Path.{◌≡◌, refl, ap, ◌∙◌}
use native.Mathlib.Numerals.{add-one}
use native.Mathlib.Nat.{le_refl, zero-add, suc-add}
use native.Mathlib.Omega.{arith}
use Rattle.lists.specs.Iter.{iter}

pub iter_start {ℓ} : {S : Type ℓ} (f : ℕ → S → S) (s : S) → s ≡ iter 0 f s
unfolding iter
iter_start f s = refl

pub iter_more {ℓ} : {S : Type ℓ} (n : ℕ) (f : ℕ → S → S) (s : S) → iter (n + 1) f s ≡ f n (iter n f s)
unfolding iter
iter_more n f s = rw add-one

-- one turn more, of a state that is known to be k turns' work
pub iter_on {ℓ} : {S : Type ℓ} (k : ℕ) (f : ℕ → S → S) (s₀ s : S) → s ≡ iter k f s₀ → f k s ≡ iter (k + 1) f s₀
iter_on k f s₀ s h = rw iter_more (ap (f k) h)

pub iter_end {ℓ} : {S : Type ℓ} (n k : ℕ) (f : ℕ → S → S) (s₀ s : S) → k ≡ n → s ≡ iter k f s₀ → s ≡ iter n f s₀
iter_end n k f s₀ s e h = rw e at h

-- turns that agree below n
pub iter_ext {ℓ} : {S : Type ℓ} (n : ℕ) (f g : ℕ → S → S) (s : S) → ((k : ℕ) → k < n → (t : S) → f k t ≡ g k t) → iter n f s ≡ iter n g s
unfolding iter
iter_ext zero f g s e = refl
iter_ext (suc n) f g s e = e n (le_refl (suc n)) (iter n f s) ∙ ap (g n) (iter_ext n f g s (λ k h t. e k (omega arith) t))

-- what each turn keeps, the loop keeps
pub iter_keeps {ℓ ℓ'} : {S : Type ℓ} (P : ℕ → S → Type ℓ') (n : ℕ) (f : ℕ → S → S) (s : S) → P 0 s → ((k : ℕ) → k < n → (t : S) → P k t → P (suc k) (f k t)) → P n (iter n f s)
unfolding iter
iter_keeps P zero f s p step = p
iter_keeps P (suc n) f s p step = step n (le_refl (suc n)) (iter n f s) (iter_keeps P n f s p (λ k h t q. step k (omega arith) t q))

-- one part of the state goes by itself where its turn needs no other part
pub iter_part {ℓ ℓ'} : {S : Type ℓ} {P : Type ℓ'} (part : S → P) (n : ℕ) (f : ℕ → S → S) (g : ℕ → P → P) (s : S) → ((k : ℕ) → k < n → (t : S) → part (f k t) ≡ g k (part t)) → part (iter n f s) ≡ iter n g (part s)
unfolding iter
iter_part part zero f g s e = refl
iter_part part (suc n) f g s e = e n (le_refl (suc n)) (iter n f s) ∙ ap (g n) (iter_part part n f g s (λ k h t. e k (omega arith) t))

-- turns that agree on the states that each turn leads to
pub iter_agree {ℓ ℓ'} : {S : Type ℓ} (P : S → Type ℓ') (n : ℕ) (f g : ℕ → S → S) (s : S) → P s → ((k : ℕ) → k < n → (t : S) → P t → P (f k t)) → ((k : ℕ) → k < n → (t : S) → P t → f k t ≡ g k t) → iter n f s ≡ iter n g s
unfolding iter
iter_agree P zero f g s p keeps same = refl
iter_agree P (suc n) f g s p keeps same =
    same n (le_refl (suc n)) (iter n f s) (iter_keeps (λ _. P) n f s p (λ k h t q. keeps k (omega arith) t q))
    ∙ ap (g n) (iter_agree P n f g s p (λ k h t q. keeps k (omega arith) t q) (λ k h t q. same k (omega arith) t q))

-- the turns after the first m
pub iter_later {ℓ} : {S : Type ℓ} (n m : ℕ) (f : ℕ → S → S) (s : S) → iter (n + m) f s ≡ iter n (λ i. f (i + m)) (iter m f s)
unfolding iter
iter_later zero m f s = ap (λ (k : ℕ). iter k f s) (zero-add m)
iter_later (suc n) m f s = ap (λ (k : ℕ). iter k f s) (suc-add n m) ∙ ap (f (n + m)) (iter_later n m f s)
