-- The product of elements by Horner's rule, reduced at each step: equal to the definition, and the laws that go by induction on a factor's digits.
-- Assumes nothing.
use Rattle.std.proofs.Common.{◌≡◌, ℕ, zero, suc, ◌*◌, ◌/◌, ◌%◌, ◌<◌, cond, ltb, sym, refl, ap, ◌∙◌, ap₂, le_of_suc-le-suc, not-suc-le-zero, one-mul, zero-mul, lit<, ltb→lt}
use lib.Bits.{bit_xor}
use Rattle.lists.proofs.Computed.{all_below_at, equal1, equal2}
use Rattle.field.specs.Field.{modulus, poly_mul, poly_rem}
use Rattle.field.proofs.Sum.{mod2, xor_inter, xor32}

-- x times an element
times_x : ℕ → ℕ
times_x a = cond (ltb (a * 2) 32) (a * 2) (bit_xor (a * 2) modulus)

-- d digits of a, lowest first: (a₀ + x·a')·b = a₀·b + x·(a'·b)
steps : ℕ → ℕ → ℕ → ℕ
unfolding times_x
steps zero a b = zero
steps (suc d) a b = bit_xor ((a % 2) * b) (times_x (steps d (a / 2) b))

pub horner : ℕ → ℕ → ℕ
unfolding steps
horner = steps 5

pub defined : (a b : ℕ) → a < 32 → b < 32 → poly_rem 4 (poly_mul 5 a b) ≡ horner a b
unfolding horner poly_rem poly_mul
defined = equal2 32 (λ a b. poly_rem 4 (poly_mul 5 a b)) horner tt

-- ---- by computation

times_x-lt : (a : ℕ) → a < 32 → times_x a < 32
unfolding times_x
times_x-lt a h = ltb→lt (times_x a) 32 (all_below_at 32 (λ x. ltb (times_x x) 32) tt a h)

times_x_xor : (a b : ℕ) → a < 32 → b < 32 → times_x (bit_xor a b) ≡ bit_xor (times_x a) (times_x b)
unfolding times_x
times_x_xor = equal2 32 (λ a b. times_x (bit_xor a b)) (λ a b. bit_xor (times_x a) (times_x b)) tt

pub horner_comm : (a b : ℕ) → a < 32 → b < 32 → horner a b ≡ horner b a
unfolding horner
horner_comm = equal2 32 horner (λ a b. horner b a) tt

horner-times_x : (a b : ℕ) → a < 32 → b < 32 → horner (times_x a) b ≡ times_x (horner a b)
unfolding horner
horner-times_x = equal2 32 (λ a b. horner (times_x a) b) (λ a b. times_x (horner a b)) tt

pub horner-zero : (b : ℕ) → b < 32 → horner 0 b ≡ 0
unfolding horner
horner-zero = equal1 32 (horner 0) (λ b. 0) tt

-- ---- a coefficient, which is 0 or 1, times a polynomial

digit : (P : ℕ → Type 0) → P 0 → P 1 → (x : ℕ) → x < 2 → P x
digit P p₀ p₁ zero h = p₀
digit P p₀ p₁ (suc zero) h = p₁
digit P p₀ p₁ (suc (suc x)) h = absurd (not-suc-le-zero (le_of_suc-le-suc (le_of_suc-le-suc h)))

digit_xor : (x b c : ℕ) → x < 2 → x * bit_xor b c ≡ bit_xor (x * b) (x * c)
digit_xor x b c =
    digit (λ (x : ℕ). x * bit_xor b c ≡ bit_xor (x * b) (x * c))
    (zero-mul (bit_xor b c) ∙ sym (ap₂ bit_xor (zero-mul b) (zero-mul c)))
    (one-mul (bit_xor b c) ∙ sym (ap₂ bit_xor (one-mul b) (one-mul c))) x

digit_lt : (x b : ℕ) → x < 2 → b < 32 → x * b < 32
digit_lt x b h k = digit (λ (x : ℕ). x * b < 32) (rw zero-mul (lit< tt)) (rw one-mul k) x h

digit_horner : (x b c : ℕ) → x < 2 → c < 32 → horner (x * b) c ≡ x * horner b c
digit_horner x b c h k =
    digit (λ (x : ℕ). horner (x * b) c ≡ x * horner b c)
    (ap (λ (y : ℕ). horner y c) (zero-mul b) ∙ horner-zero c k ∙ sym (zero-mul (horner b c)))
    (ap (λ (y : ℕ). horner y c) (one-mul b) ∙ sym (one-mul (horner b c))) x h

-- ---- by induction on the digits

steps-lt : (d a b : ℕ) → b < 32 → steps d a b < 32
unfolding steps
steps-lt zero a b h = lit< tt
steps-lt (suc d) a b h =
    xor32 ((a % 2) * b) (times_x (steps d (a / 2) b)) (digit_lt (a % 2) b (mod2 a) h) (times_x-lt (steps d (a / 2) b) (steps-lt d (a / 2) b h))

steps_xor : (d a b c : ℕ) → b < 32 → c < 32 → steps d a (bit_xor b c) ≡ bit_xor (steps d a b) (steps d a c)
unfolding steps
steps_xor zero a b c hb hc = refl
steps_xor (suc d) a b c hb hc =
    ap₂ bit_xor (digit_xor (a % 2) b c (mod2 a))
    (ap times_x (steps_xor d (a / 2) b c hb hc) ∙ times_x_xor (steps d (a / 2) b) (steps d (a / 2) c) (steps-lt d (a / 2) b hb) (steps-lt d (a / 2) c hc))
    ∙ xor_inter ((a % 2) * b) ((a % 2) * c) (times_x (steps d (a / 2) b)) (times_x (steps d (a / 2) c))

pub horner-lt : (a b : ℕ) → b < 32 → horner a b < 32
unfolding horner
horner-lt a b h = steps-lt 5 a b h

pub horner_xor : (a b c : ℕ) → b < 32 → c < 32 → horner a (bit_xor b c) ≡ bit_xor (horner a b) (horner a c)
unfolding horner
horner_xor = steps_xor 5

xor_horner : (a b c : ℕ) → a < 32 → b < 32 → c < 32 → horner (bit_xor a b) c ≡ bit_xor (horner a c) (horner b c)
xor_horner a b c ha hb hc =
    horner_comm (bit_xor a b) c (xor32 a b ha hb) hc ∙ horner_xor c a b ha hb ∙ ap₂ bit_xor (horner_comm c a hc ha) (horner_comm c b hc hb)

steps_assoc : (d a b c : ℕ) → b < 32 → c < 32 → horner (steps d a b) c ≡ steps d a (horner b c)
unfolding steps
steps_assoc zero a b c hb hc = horner-zero c hc
steps_assoc (suc d) a b c hb hc =
    let r = steps d (a / 2) b in
    xor_horner ((a % 2) * b) (times_x r) c (digit_lt (a % 2) b (mod2 a) hb) (times_x-lt r (steps-lt d (a / 2) b hb)) hc
    ∙ ap₂ bit_xor (digit_horner (a % 2) b c (mod2 a) hc) (horner-times_x r c (steps-lt d (a / 2) b hb) hc ∙ ap times_x (steps_assoc d (a / 2) b c hb hc))

pub horner_assoc : (a b c : ℕ) → b < 32 → c < 32 → horner (horner a b) c ≡ horner a (horner b c)
unfolding horner
horner_assoc a b c hb hc = steps_assoc 5 a b c hb hc
