-- The front of a list with one more entry; and a loop over the entries of a list, which is the library's `foldl`, where j entries are done.
-- Assumes nothing.
use Prim.Native.Nat.{ℕ, ◌+◌, ◌<◌, ◌≤◌}
use mathlib.Core.Path.{◌≡◌, refl, ap, ◌∙◌}
use mathlib.Core.List.{List, [], ◌∷◌, ◌++◌, foldl, foldl-append}
use native.Mathlib.Numerals.{add-one}
use lib.ListN.{length, get_or, take}
use lib.Seq.{take-suc, take_all}

module _ {ℓ} {A : Type ℓ} where
  pub take_more : (d : A) (l : List A) (j : ℕ) (x : A) → j < length l → get_or l j d ≡ x → take (j + 1) l ≡ take j l ++ x ∷ []
  take_more d l j x h e = rw (add-one, take-suc l j d, e)

  pub fold_start {ℓ'} : {S : Type ℓ'} (f : S → A → S) (s : S) (l : List A) → s ≡ foldl f s (take 0 l)
  fold_start f s l = refl

  pub fold_on {ℓ'} : {S : Type ℓ'} (f : S → A → S) (s₀ s : S) (d : A) (l : List A) (j : ℕ) (x : A) → j < length l → get_or l j d ≡ x → s ≡ foldl f s₀ (take j l) → f s x ≡ foldl f s₀ (take (j + 1) l)
  fold_on f s₀ s d l j x h e q = rw (take_more d l j x h e, foldl-append) (ap (λ t. f t x) q)

  pub fold_end {ℓ'} : {S : Type ℓ'} (f : S → A → S) (s₀ s : S) (l : List A) (j : ℕ) → length l ≤ j → s ≡ foldl f s₀ (take j l) → s ≡ foldl f s₀ l
  fold_end f s₀ s l j h q = q ∙ ap (foldl f s₀) (take_all j l h)
