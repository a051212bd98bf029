-- A part that holds one value everywhere holds it at every place, and past its end too where the value stands for what is not there; and so does its front.
-- Assumes nothing.
use mathlib.Core.Path.{◌≡◌, refl, ap}
use mathlib.Core.Logic.{⊎_elim}
use mathlib.Core.List.{List, ◌∷◌}
use Prim.Native.Nat.{ℕ, zero, suc, ◌≤◌}
use native.Mathlib.Nat.{le_of_suc-le-suc, not-suc-le-zero}
use native.Mathlib.Omega.{arith}
use lib.ListN.{get_or, take, replicate, length-replicate, get_or-replicate, get_or-eq_default}
use Rattle.lists.proofs.Cases.{less_or_not}

pub blank_at {ℓ} : {A : Type ℓ} (n k : ℕ) (d : A) → get_or (replicate n d) k d ≡ d
blank_at n k d =
    ⊎_elim (λ h. get_or-replicate n k d d h) (λ h. get_or-eq_default (replicate n d) d (omega (arith, length-replicate n d))) (less_or_not k n)

pub blank_take {ℓ} : {A : Type ℓ} (a : A) (w n : ℕ) → w ≤ n → take w (replicate n a) ≡ replicate w a
blank_take a zero n h = refl
blank_take a (suc w) zero h = absurd (not-suc-le-zero h)
blank_take a (suc w) (suc n) h = ap (λ (l : List _). a ∷ l) (blank_take a w n (le_of_suc-le-suc h))
