-- One of two by a test, as the library's `cond`. Ours; it stays folded, so that a law about it is found by its shape.
-- Assumes nothing.
use Rattle.std.specs.Prelude.{Bool, cond}

unfoldable pub pick {ℓ} : {A : Type ℓ} → Bool → A → A → A
pick test x y = cond test x y
