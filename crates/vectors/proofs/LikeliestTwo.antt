-- The two likeliest values of a vector: as a loop finds them, that both are values, that the first is the decision, and that the margin of a finite vector is a number.
-- Assumes nothing.
use Prim.Native.Nat.{ℕ, ◌+◌, ◌-◌, ◌<◌, ◌≤◌}
use mathlib.Core.Path.{◌≡◌, refl, sym, ap, ap₂, ◌∙◌}
use mathlib.Core.Logic.{⊎_elim}
use mathlib.Core.Bool.{true, false}
use native.Mathlib.Omega.{arith}
use lib.Dec.{T}
use lib.Ieee.{Float, lt, of_bits, is_nan}
use lib.Ieee.Scale.{finite}
use lib.Ieee.Positive.{num}
use Rattle.lists.specs.Choice.{pick}
use Rattle.lists.specs.Iter.{iter}
use Rattle.lists.proofs.Cases.{true_or_false}
use Rattle.lists.proofs.Choice.{pick-true, pick-false, pick_either}
use Rattle.lists.proofs.Iter.{iter_start, iter_on, iter_end, iter_keeps, iter_part, iter_later}
use Rattle.vectors.specs.declared.likeliest.Two.{Two}
use Rattle.vectors.specs.Float32.{tiny32}
use Rattle.vectors.specs.Vector.{Vector, at}
use Rattle.vectors.specs.Multiplied.{raised}
use Rattle.vectors.specs.Decision.{decision}
use Rattle.vectors.specs.Likeliest.{two, two_turn, likeliest_two, margin}
use Rattle.vectors.specs.Fine.{nonneg, fine}
use Rattle.vectors.proofs.FloatOrder.{lt_same}
use Rattle.vectors.proofs.FineFloats.{finite-fine, nonneg_number, above_nonneg, tiny_below, quotient_nonneg}

-- ---- as a loop finds them

-- from 0 and 1
abbrev pub two_start : Vector → Two
two_start p = pick (lt (at p 0) (at p 1)) (two 1 0) (two 0 1)

-- a and b are the two by the values below x
pub record TwoBelow (p : Vector) (x a b : ℕ) : Type 0 where
  pub from : 2 ≤ x
  pub to : x ≤ 32
  pub first : a < 32
  pub second : b < 32
  pub found : two a b ≡ iter (x - 2) (λ i. two_turn p (i + 2)) (two_start p)

module _ (p : Vector) (a b : ℕ) where
  started : a < 32 → b < 32 → two a b ≡ two_start p → TwoBelow p 2 a b
  started h l e = record { from = omega arith; to = omega arith; first = h; second = l; found = e ∙ iter_start (λ i. two_turn p (i + 2)) (two_start p) }

  pub start_first : lt (at p 0) (at p 1) ≡ true → a ≡ 1 → b ≡ 0 → TwoBelow p 2 a b
  start_first t e d = started (omega arith) (omega arith) (ap₂ two e d ∙ sym (pick-true (lt (at p 0) (at p 1)) (two 1 0) (two 0 1) t))

  pub start_none : lt (at p 0) (at p 1) ≡ false → a ≡ 0 → b ≡ 1 → TwoBelow p 2 a b
  start_none t e d = started (omega arith) (omega arith) (ap₂ two e d ∙ sym (pick-false (lt (at p 0) (at p 1)) (two 1 0) (two 0 1) t))

  pub two_end : (x : ℕ) → x ≡ 32 → TwoBelow p x a b → two a b ≡ likeliest_two p
  unfolding likeliest_two
  two_end x e r = iter_end 30 (x - 2) (λ i. two_turn p (i + 2)) (two_start p) (two a b) (omega arith) r.found

module _ (p : Vector) (x a b f s : ℕ) (r : TwoBelow p x a b) (l : x < 32) where
  on : f < 32 → s < 32 → two f s ≡ two_turn p x (two a b) → TwoBelow p (x + 1) f s
  on h k e =
      let before : x - 2 + 2 ≡ x = omega arith in
      let after : x - 2 + 1 ≡ x + 1 - 2 = omega arith in
      record {
        from = omega arith;
        to = omega arith;
        first = h;
        second = k;
        found =
            e
            ∙ ap (λ (y : ℕ). two_turn p y (two a b)) (sym before)
            ∙ iter_on (x - 2) (λ i. two_turn p (i + 2)) (two_start p) (two a b) r.found
            ∙ ap (λ (k : ℕ). iter k (λ i. two_turn p (i + 2)) (two_start p)) after;
      }

  pub on_first : lt (at p a) (at p x) ≡ true → f ≡ x → s ≡ a → TwoBelow p (x + 1) f s
  on_first t e d = on (omega arith) (omega arith) (ap₂ two e d ∙ sym (pick-true _ _ _ t))

  pub on_second : lt (at p a) (at p x) ≡ false → lt (at p b) (at p x) ≡ true → f ≡ a → s ≡ x → TwoBelow p (x + 1) f s
  on_second t u e d = on (omega arith) (omega arith) (ap₂ two e d ∙ sym (pick-false _ _ _ t ∙ pick-true _ _ _ u))

  pub on_none : lt (at p a) (at p x) ≡ false → lt (at p b) (at p x) ≡ false → f ≡ a → s ≡ b → TwoBelow p (x + 1) f s
  on_none t u e d = on (omega arith) (omega arith) (ap₂ two e d ∙ sym (pick-false _ _ _ t ∙ pick-false _ _ _ u))

-- ---- what they are

abbrev Small : Two → Type 0
Small b = (b.first < 32) × (b.second < 32)

pub two_small : (p : Vector) → ((likeliest_two p).first < 32) × ((likeliest_two p).second < 32)
unfolding likeliest_two
two_small p =
    iter_keeps (λ _ b. Small b) 30 (λ i. two_turn p (i + 2)) (two_start p)
    (pick_either Small (lt (at p 0) (at p 1)) (two 1 0) (two 0 1) (λ _. (omega arith, omega arith)) (omega arith, omega arith))
    (λ i l b h.
    pick_either Small _ _ _ (λ _. (omega arith, h.0)) (pick_either Small _ _ _ (λ _. (h.0, omega arith)) h))

-- the decision's turn
abbrev first_turn : Vector → ℕ → ℕ → ℕ
first_turn p x b = pick (lt (at p b) (at p x)) x b

two_turn-first_turn : (p : Vector) (x : ℕ) (b : Two) → (two_turn p x b).first ≡ first_turn p x b.first
two_turn-first_turn p x b =
    let above = lt (at p b.first) (at p x) in
    let second = lt (at p b.second) (at p x) in
    let rest = pick second (two b.first x) b in
    ⊎_elim
    (λ t. ap (λ (s : Two). s.first) (pick-true above (two x b.first) rest t) ∙ sym (pick-true above x b.first t))
    (λ t.
    ap (λ (s : Two). s.first) (pick-false above (two x b.first) rest t)
    ∙ pick_either (λ (s : Two). s.first ≡ b.first) second (two b.first x) b (λ _. refl) refl
    ∙ sym (pick-false above x b.first t))
    (true_or_false above)

-- 0 beside itself, then 1
first_two : (p : Vector) → (two_start p).first ≡ iter 2 (first_turn p) 0
unfolding iter
first_two p =
    let above = lt (at p 0) (at p 1) in
    let zero = pick-false {A = ℕ} (lt (at p 0) (at p 0)) 0 0 (lt_same (at p 0)) in
    ⊎_elim
    (λ t. ap (λ (s : Two). s.first) (pick-true above (two 1 0) (two 0 1) t) ∙ sym (ap (first_turn p 1) zero ∙ pick-true {A = ℕ} above 1 0 t))
    (λ t. ap (λ (s : Two). s.first) (pick-false above (two 1 0) (two 0 1) t) ∙ sym (ap (first_turn p 1) zero ∙ pick-false {A = ℕ} above 1 0 t))
    (true_or_false above)

pub likeliest_decision : (p : Vector) → (likeliest_two p).first ≡ decision p
unfolding likeliest_two decision
likeliest_decision p =
    iter_part (λ (b : Two). b.first) 30 (λ i. two_turn p (i + 2)) (λ i. first_turn p (i + 2)) (two_start p) (λ i l b. two_turn-first_turn p (i + 2) b)
    ∙ ap (iter 30 (λ i. first_turn p (i + 2))) (first_two p)
    ∙ sym (iter_later 30 2 (first_turn p) 0)

-- ---- the margin

-- a finite entry, raised, is finite and above 0
raised_above : (y : Float) → T (finite y) → T (fine (raised y)) × (0 < num (raised y))
unfolding raised
raised_above y f =
    pick_either (λ z. T (fine z) × (0 < num z)) (lt tiny32 y) y tiny32
    (λ t. let w = finite-fine y f (above_nonneg y t) in (w, (tiny_below y w t).0))
    (unfold of_bits in (tt, omega arith))

pub margin-nonneg : (p : Vector) → ((x : ℕ) → x < 32 → T (finite (at p x))) → T (nonneg (margin p))
unfolding margin
margin-nonneg p f =
    let b = likeliest_two p in
    let w = two_small p in
    let x = raised_above (at p b.first) (f b.first w.0) in
    let y = raised_above (at p b.second) (f b.second w.1) in
    quotient_nonneg (raised (at p b.first)) (raised (at p b.second)) x.0 y.0 y.1

pub margin_number : (p : Vector) → ((x : ℕ) → x < 32 → T (finite (at p x))) → is_nan (margin p) ≡ false
margin_number p f = nonneg_number (margin p) (margin-nonneg p f)
