-- Two sequences that rise and have the same numbers are the same.
-- Assumes nothing.
use Prim.Native.Nat.{ℕ, zero, suc, ◌<◌, ◌≤◌}
use mathlib.Core.Path.{◌≡◌}
use mathlib.Core.Logic.{⊎_elim}
use native.Mathlib.Nat.{not-suc-le-zero}
use native.Mathlib.Omega.{arith}
use Rattle.lists.proofs.Cases.{same_or_not, less_or_not}

abbrev pub Rises : ℕ → (ℕ → ℕ) → Type 0
Rises a f = (t v : ℕ) → t < v → v < a → f t < f v

-- each of f's numbers is one of g's
abbrev pub Within : ℕ → (ℕ → ℕ) → ℕ → (ℕ → ℕ) → Type 0
Within a f b g = (t : ℕ) → t < a → (v : ℕ) × (v < b) × (g v ≡ f t)

rises_to : (a : ℕ) (f : ℕ → ℕ) → Rises a f → (t v : ℕ) → t ≤ v → v < a → f t ≤ f v
rises_to a f up t v h l = ⊎_elim (λ q. rw q (omega arith)) (λ q. omega (arith, up t v (omega (arith, q)) l)) (same_or_not t v)

module _ (a b : ℕ) (f g : ℕ → ℕ) (f-up : Rises a f) (g-up : Rises b g) (f-in : Within a f b g) (g-in : Within b g a f) where
  step : (t : ℕ) → ((v : ℕ) → v < t → v < a → (v < b) × (f v ≡ g v)) → t < a → (t < b) × (f t ≡ g t)
  step t ih l = (tb, omega (arith, rises_to a f f-up t v tv y.1, rises_to b g g-up t u tu x.1, x.2, y.2))
    where
      x : (v : ℕ) × (v < b) × (g v ≡ f t)
      x = f-in t l

      u : ℕ
      u = x.0

      tu : t ≤ u
      tu = ⊎_elim (λ (h : u < t). absurd (omega (arith, (ih u h (omega arith)).1, f-up u t h l, x.2))) (λ (h : t ≤ u). h) (less_or_not u t)

      tb : t < b
      tb = omega (arith, tu, x.1)

      y : (v : ℕ) × (v < a) × (f v ≡ g t)
      y = g-in t tb

      v : ℕ
      v = y.0

      tv : t ≤ v
      tv = ⊎_elim (λ (h : v < t). absurd (omega (arith, (ih v h (omega arith)).1, g-up v t h tb, y.2))) (λ (h : t ≤ v). h) (less_or_not v t)

  same_front : (k t : ℕ) → t < k → t < a → (t < b) × (f t ≡ g t)
  same_front zero t h l = absurd (not-suc-le-zero h)
  same_front (suc k) t h l = ⊎_elim (λ d. same_front k t d l) (λ (d : k ≤ t). step t (λ v e m. same_front k v (omega arith) m) l) (less_or_not t k)

  not_more : a ≤ b
  not_more = ⊎_elim (λ (h : b < a). absurd (omega (arith, (same_front (suc b) b (omega arith) h).0))) (λ (h : a ≤ b). h) (less_or_not b a)

pub same_rise : (a b : ℕ) (f g : ℕ → ℕ) → Rises a f → Rises b g → Within a f b g → Within b g a f → (a ≡ b) × ((t : ℕ) → t < a → f t ≡ g t)
same_rise a b f g f-up g-up f-in g-in =
    (omega (arith, not_more a b f g f-up g-up f-in g-in, not_more b a g f g-up f-up g-in f-in), λ t h. (same_front a b f g f-up g-up f-in g-in (suc t) t (omega arith) h).1)
