-- A changed function at its place and at others.
-- Assumes nothing.
use mathlib.Core.Path.{◌≡◌}
use mathlib.Core.Logic.{◌≢◌}
use Prim.Native.Nat.{ℕ}
use Rattle.lists.specs.Changed.{changed}
use Rattle.lists.proofs.Choice.{pick_same, pick_other}

module _ {ℓ} {A : Type ℓ} (f : ℕ → A) (place : ℕ) (value : A) (j : ℕ) where
  pub changed_at : j ≡ place → changed f place value j ≡ value
  unfolding changed
  changed_at e = pick_same j place value (f j) e

  pub changed_other : j ≢ place → changed f place value j ≡ f j
  unfolding changed
  changed_other n = pick_other j place value (f j) n
