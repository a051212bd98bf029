-- The sum of a factor's multiples at the digits of an element is the product of the two.
-- Assumes nothing.
use Rattle.std.proofs.Common.{◌≡◌, ℕ, ◌+◌, ◌*◌, ◌/◌, ◌%◌, ◌^◌, ◌<◌, ◌≤◌, sym, refl, ap, ◌∙◌, le_of_suc-le-suc, mul-le-mul_right, arith}
use lib.Bits.{bit_xor}
use lib.Pow.{field}
use Rattle.lists.proofs.Computed.{equal1, equal2}
use Rattle.field.specs.Field.{product}
use Rattle.field.specs.Multiples.{multiples_of, combined}
use Rattle.field.specs.declared.multiples.Multiples.{Multiples}
use Rattle.field.proofs.Sum.{mod2}
use Rattle.field.proofs.Product.{mod32, product-mod, product-mod_left, product_comm, product_assoc, one_product}

-- a digit times a number is at most the number
pub digit_le : (a b : ℕ) → (a % 2) * b ≤ b
digit_le a b = omega (arith, mul-le-mul_right b (le_of_suc-le-suc (mod2 a)))

-- ---- the multiples, each x times the one before

pub x_product : (a : ℕ) → a < 32 → bit_xor (a * 2) ((a / 16) * 37) ≡ product a 2
unfolding product
x_product = equal1 32 (λ a. bit_xor (a * 2) ((a / 16) * 37)) (λ a. product a 2) tt

pub x_powers : (product 1 2 ≡ 2) × (product 2 2 ≡ 4) × (product 4 2 ≡ 8) × (product 8 2 ≡ 16)
unfolding product
x_powers = (refl, refl, refl, refl)

-- the first, which is the factor itself, and the step from the product with b to that with x·b
pub first_multiple : (f : ℕ) → f % 32 ≡ product f 1
first_multiple f = sym (one_product (f % 32) (mod32 f)) ∙ product_comm 1 (f % 32) ∙ product-mod_left f 1

pub next_multiple : (f b c m k : ℕ) → product b 2 ≡ c → m ≡ product f b → k ≡ product m 2 → k ≡ product f c
next_multiple f b c m k e h q = q ∙ ap (λ (x : ℕ). product x 2) h ∙ product_assoc f b 2 ∙ ap (product f) e

-- ---- of a factor and an element below 32, by a test of all pairs; then of any two numbers, of which the five lowest digits count

small : (f p : ℕ) → f < 32 → p < 32 → combined (multiples_of f) p ≡ product f p
unfolding combined multiples_of product
small = equal2 32 (λ f p. combined (multiples_of f) p) product tt

factor_mod : (f : ℕ) → multiples_of (f % 32) ≡ multiples_of f
unfolding multiples_of
factor_mod f = simp (product-mod_left f)

lowest : (p : ℕ) → p % 32 % 2 ≡ p % 2
lowest p = omega arith

-- digit k is that of the k + 1 lowest digits
same_digit : (p k : ℕ) → p % 32 % 2 ^ (1 + k) ≡ p % 2 ^ (1 + k) → p % 32 / 2 ^ k % 2 ≡ p / 2 ^ k % 2
same_digit p k e = sym (field (p % 32) 1 k) ∙ ap (λ (x : ℕ). x / 2 ^ k) e ∙ field p 1 k

digits_mod : (m : Multiples) (p : ℕ) → combined m (p % 32) ≡ combined m p
unfolding combined
digits_mod m p = rw (lowest p, same_digit p 1 (omega arith), same_digit p 2 (omega arith), same_digit p 3 (omega arith), same_digit p 4 (omega arith))

pub combined-product : (f p : ℕ) → combined (multiples_of f) p ≡ product f p
combined-product f p =
    sym (ap (λ (m : Multiples). combined m (p % 32)) (factor_mod f) ∙ digits_mod (multiples_of f) p)
    ∙ small (f % 32) (p % 32) (mod32 f) (mod32 p)
    ∙ product-mod f p
