-- Which way a folded choice goes.
-- Assumes nothing.
use mathlib.Core.Path.{◌≡◌, refl}
use mathlib.Core.Logic.{◌≢◌}
use mathlib.Core.Bool.{Bool, true, false, not}
use Prim.Native.Nat.{ℕ, ◌<◌, ◌≤◌}
use borrow.Author.Tests.{eq-eqb, ne_eqb, lt-ltb, le-ltb}
use lib.Dec.{T, eqb, ltb}
use Rattle.lists.specs.Choice.{pick}

module _ {ℓ} {A : Type ℓ} where
  pub pick-true : (test : Bool) (x y : A) → test ≡ true → pick test x y ≡ x
  unfolding pick
  pick-true test x y e = rw e

  pub pick-false : (test : Bool) (x y : A) → test ≡ false → pick test x y ≡ y
  unfolding pick
  pick-false test x y e = rw e

  -- the other way round
  pub pick-not : (test : Bool) (x y : A) → pick test x y ≡ pick (not test) y x
  unfolding pick
  pick-not true x y = refl
  pick-not false x y = refl

  -- what holds of both outcomes
  pub pick_either {ℓ'} : (P : A → Type ℓ') (test : Bool) (x y : A) → (T test → P x) → P y → P (pick test x y)
  unfolding pick
  pick_either P true x y f g = f tt
  pick_either P false x y f g = g

  -- by two numbers

  pub pick_same : (a b : ℕ) (x y : A) → a ≡ b → pick (eqb a b) x y ≡ x
  pick_same a b x y e = pick-true (eqb a b) x y (eq-eqb a b e)

  pub pick_other : (a b : ℕ) (x y : A) → a ≢ b → pick (eqb a b) x y ≡ y
  pick_other a b x y n = pick-false (eqb a b) x y (ne_eqb a b n)

  pub pick_less : (a b : ℕ) (x y : A) → a < b → pick (ltb a b) x y ≡ x
  pick_less a b x y h = pick-true (ltb a b) x y (lt-ltb a b h)

  pub pick_not_less : (a b : ℕ) (x y : A) → b ≤ a → pick (ltb a b) x y ≡ y
  pick_not_less a b x y h = pick-false (ltb a b) x y (le-ltb a b h)
