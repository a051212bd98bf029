-- A sequence that falls at no step falls nowhere; one that rises has no number twice; and a number that a sequence passes stands between two steps.
-- Assumes nothing.
use Prim.Native.Nat.{ℕ, zero, suc, ◌+◌, ◌-◌, ◌<◌, ◌≤◌}
use mathlib.Core.Path.{◌≡◌}
use mathlib.Core.Logic.{⊎_elim}
use native.Mathlib.Nat.{le_refl, le_step}
use native.Mathlib.Numerals.{add-one}
use native.Mathlib.Omega.{arith}
use Rattle.lists.proofs.Cases.{same_or_not, less_or_not}

module _ (m : ℕ) (f : ℕ → ℕ) (step : (i : ℕ) → i < m → f i ≤ f (i + 1)) where
  up : (d i j : ℕ) → i + d ≡ j → j ≤ m → f i ≤ f j
  up zero i j e h = let z : i ≡ j = omega arith in rw z (omega arith)
  up (suc d) i j e h = omega (arith, step i (omega arith), up d (i + 1) j (omega arith) h)

  pub rises : (i j : ℕ) → i ≤ j → j ≤ m → f i ≤ f j
  rises i j h l = up (j - i) i j (omega arith) l

pub rises_apart : (n : ℕ) (f : ℕ → ℕ) → ((t u : ℕ) → t < u → u < n → f t < f u) → (t u : ℕ) → t < n → u < n → f t ≡ f u → t ≡ u
rises_apart n f up t u h l e =
    ⊎_elim
    (λ (a : t < u). absurd (omega (arith, e, up t u a l)))
    (λ a. ⊎_elim (λ q. q) (λ q. absurd (omega (arith, e, up u t (omega (arith, a, q)) h))) (same_or_not t u))
    (less_or_not t u)

pub between : (k : ℕ) (f : ℕ → ℕ) (t : ℕ) → f 0 ≤ t → t < f k → (u : ℕ) × (u < k) × (f u ≤ t) × (t < f (u + 1))
between zero f t a b = absurd (omega arith)
between (suc k) f t a b =
    ⊎_elim
    (λ l. let r = between k f t a l in (r.0, le_step r.1, r.2, r.3))
    (λ l. (k, le_refl (suc k), l, rw (add-one k) b))
    (less_or_not t (f k))
