-- The counting loop: `iter n f s` is what the turns 0, 1, .., n - 1 of f make of s, in this order. Ours; every counting loop is stated by it.
-- Assumes nothing.
use Rattle.std.specs.Prelude.{ℕ, zero, suc}

unfoldable pub iter {ℓ} : {S : Type ℓ} → ℕ → (ℕ → S → S) → S → S
iter zero f s = s
iter (suc n) f s = f n (iter n f s)
