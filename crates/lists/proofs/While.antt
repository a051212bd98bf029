-- Laws of the loop with fuel, by the code's numbers: k of n turns are done.
-- Assumes nothing.
use Prim.Native.Nat.{ℕ, zero, suc, ◌+◌, ◌-◌, ◌<◌}
use mathlib.Core.Path.{◌≡◌, refl, sym, ◌∙◌}
use mathlib.Core.Bool.{Bool, true, false}
use native.Mathlib.Omega.{arith}
use Rattle.lists.specs.While.{while}

pub while_more {ℓ} : {S : Type ℓ} (n : ℕ) (test : S → Bool) (f : S → S) (s : S) → test s ≡ true → while (suc n) test f s ≡ while n test f (f s)
unfolding while
while_more n test f s e = rw e

pub while_on {ℓ} : {S : Type ℓ} (n k : ℕ) (test : S → Bool) (f : S → S) (s t : S) → k < n → test s ≡ true → while (n - k) test f s ≡ t → while (n - (k + 1)) test f (f s) ≡ t
while_on n k test f s t l e h =
    let z : n - k ≡ suc (n - (k + 1)) = omega arith in
    sym (while_more _ test f s e) ∙ (rw z at h)

pub while_stop {ℓ} : {S : Type ℓ} (n : ℕ) (test : S → Bool) (f : S → S) (s : S) → test s ≡ false → while n test f s ≡ s
unfolding while
while_stop zero test f s e = refl
while_stop (suc n) test f s e = rw e

pub while_out {ℓ} : {S : Type ℓ} (n : ℕ) (test : S → Bool) (f : S → S) (s : S) → n ≡ 0 → while n test f s ≡ s
unfolding while
while_out n test f s e = rw e
