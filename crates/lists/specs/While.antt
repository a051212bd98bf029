-- The loop with a test and fuel: turns of f while the test holds, at most n of them. Ours; a loop that may stop early is stated by it.
-- Assumes nothing.
use Rattle.std.specs.Prelude.{ℕ, zero, suc, Bool, cond}

unfoldable pub while {ℓ} : {S : Type ℓ} → ℕ → (S → Bool) → (S → S) → S → S
while zero test f s = s
while (suc n) test f s = cond (test s) (while n test f (f s)) s
