-- Laws of the field's product, of any two numbers: commutative, associative, distributive; 0 and 1; inverses; no zero divisors; powers.
-- Assumes nothing.
use Rattle.std.proofs.Common.{◌≡◌, ℕ, zero, suc, ◌+◌, ◌%◌, ◌<◌, ◌≢◌, ◌⊎◌, sym, refl, ap, ◌∙◌, ap₂, inl, inr, ⊎_elim, le_of_suc-le-suc, mod-lt, mod-eq_of_lt, suc-add, zero-add, lit<}
use lib.Bits.{bit_xor, xor_mod}
use Rattle.lists.proofs.Cases.{same_or_not}
use Rattle.lists.proofs.Computed.{equal1}
use Rattle.field.specs.Field.{product, power, inverse}
use Rattle.field.proofs.Horner.{horner, defined, horner-lt, horner_comm, horner-zero, horner_xor, horner_assoc}

pub mod32 : (n : ℕ) → n % 32 < 32
mod32 n = mod-lt n (lit< tt)

by_horner : (a b : ℕ) → product a b ≡ horner (a % 32) (b % 32)
unfolding product
by_horner a b = defined (a % 32) (b % 32) (mod32 a) (mod32 b)

pub product-lt : (a b : ℕ) → product a b < 32
product-lt a b = rw by_horner (horner-lt (a % 32) (b % 32) (mod32 b))

pub product_comm : (a b : ℕ) → product a b ≡ product b a
product_comm a b = by_horner a b ∙ horner_comm (a % 32) (b % 32) (mod32 a) (mod32 b) ∙ sym (by_horner b a)

-- the five lowest digits of a factor count
pub product-mod_left : (a b : ℕ) → product (a % 32) b ≡ product a b
product-mod_left a b = by_horner (a % 32) b ∙ ap (λ (x : ℕ). horner x (b % 32)) (mod-eq_of_lt (mod32 a)) ∙ sym (by_horner a b)

pub product-mod_right : (a b : ℕ) → product a (b % 32) ≡ product a b
product-mod_right a b = product_comm a (b % 32) ∙ product-mod_left b a ∙ product_comm b a

pub product-mod : (a b : ℕ) → product (a % 32) (b % 32) ≡ product a b
product-mod a b = product-mod_left a (b % 32) ∙ product_comm a (b % 32) ∙ product-mod_left b a ∙ product_comm b a

pub product_xor : (a b c : ℕ) → product a (bit_xor b c) ≡ bit_xor (product a b) (product a c)
product_xor a b c =
    by_horner a (bit_xor b c) ∙ ap (horner (a % 32)) (xor_mod b c 5) ∙ horner_xor (a % 32) (b % 32) (c % 32) (mod32 b) (mod32 c)
    ∙ sym (ap₂ bit_xor (by_horner a b) (by_horner a c))

pub xor_product : (a b c : ℕ) → product (bit_xor a b) c ≡ bit_xor (product a c) (product b c)
xor_product a b c = product_comm (bit_xor a b) c ∙ product_xor c a b ∙ ap₂ bit_xor (product_comm c a) (product_comm c b)

pub product_assoc : (a b c : ℕ) → product (product a b) c ≡ product a (product b c)
product_assoc a b c =
    by_horner (product a b) c ∙ ap (λ (x : ℕ). horner x (c % 32)) (mod-eq_of_lt (product-lt a b) ∙ by_horner a b)
    ∙ horner_assoc (a % 32) (b % 32) (c % 32) (mod32 b) (mod32 c)
    ∙ sym (by_horner a (product b c) ∙ ap (horner (a % 32)) (mod-eq_of_lt (product-lt b c) ∙ by_horner b c))

pub zero-product : (a : ℕ) → product 0 a ≡ 0
zero-product a = by_horner 0 a ∙ horner-zero (a % 32) (mod32 a)

pub product-zero : (a : ℕ) → product a 0 ≡ 0
product-zero a = product_comm a 0 ∙ zero-product a

-- of factors of which one counts as 0
pub product_vanishes : (a b : ℕ) → (a % 32 ≡ 0) ⊎ (b % 32 ≡ 0) → product a b ≡ 0
product_vanishes a b (inl e) = sym (product-mod a b) ∙ ap (λ (x : ℕ). product x (b % 32)) e ∙ zero-product (b % 32)
product_vanishes a b (inr e) = sym (product-mod a b) ∙ ap (product (a % 32)) e ∙ product-zero (a % 32)

pub one_product : (a : ℕ) → a < 32 → product 1 a ≡ a
unfolding product
one_product = equal1 32 (product 1) (λ a. a) tt

-- ---- powers

pub power-lt : (a k : ℕ) → power a k < 32
unfolding power
power-lt a zero = lit< tt
power-lt a (suc k) = product-lt a (power a k)

pub power-mod : (a k : ℕ) → power (a % 32) k ≡ power a k
unfolding power
power-mod a zero = refl
power-mod a (suc k) = ap (product (a % 32)) (power-mod a k) ∙ product-mod_left a (power a k)

pub power-add : (a i j : ℕ) → power a (i + j) ≡ product (power a i) (power a j)
unfolding power
power-add a zero j = ap (power a) (zero-add j) ∙ sym (one_product (power a j) (power-lt a j))
power-add a (suc i) j = ap (power a) (suc-add i j) ∙ ap (product a) (power-add a i j) ∙ sym (product_assoc a (power a i) (power a j))

-- ---- inverses

pub inverse-product : (a : ℕ) → a < 32 → a ≢ 0 → product (inverse a) a ≡ 1
unfolding product inverse
inverse-product zero h k = absurd (k refl)
inverse-product (suc a) h k = equal1 31 (λ a. product (inverse (suc a)) (suc a)) (λ a. 1) tt a (le_of_suc-le-suc h)

pub inverse-lt : (a : ℕ) → inverse a < 32
unfolding inverse
inverse-lt a = power-lt a 30

pub inverse-zero : inverse 0 ≡ 0
unfolding inverse
inverse-zero = refl

-- a factor other than 0 is taken off
pub product_cancel : (a b c : ℕ) → a < 32 → a ≢ 0 → b < 32 → c < 32 → product a b ≡ product a c → b ≡ c
product_cancel a b c ha k hb hc e =
    sym (off b hb) ∙ ap (product (inverse a)) e ∙ off c hc
  where
    off : (x : ℕ) → x < 32 → product (inverse a) (product a x) ≡ x
    off x h = sym (product_assoc (inverse a) a x) ∙ ap (λ (y : ℕ). product y x) (inverse-product a ha k) ∙ one_product x h

pub inverse-mod : (a : ℕ) → inverse (a % 32) ≡ inverse a
unfolding inverse
inverse-mod a = power-mod a 30

pub inverse_unique : (a b : ℕ) → a < 32 → a ≢ 0 → b < 32 → product b a ≡ 1 → b ≡ inverse a
inverse_unique a b ha k hb e = product_cancel a b (inverse a) ha k hb (inverse-lt a) (product_comm a b ∙ e ∙ sym (inverse-product a ha k) ∙ product_comm (inverse a) a)

pub no_zero_divisors : (a b : ℕ) → a < 32 → b < 32 → product a b ≡ 0 → (a ≡ 0) ⊎ (b ≡ 0)
no_zero_divisors a b ha hb e =
    ⊎_elim inl (λ k. inr (product_cancel a b 0 ha k hb (lit< tt) (e ∙ sym (product-zero a)))) (same_or_not a 0)
