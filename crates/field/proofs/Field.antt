-- The 32 elements are a field: its laws side by side, with the exclusive or as the sum.
-- Assumes nothing.
use Rattle.std.proofs.Common.{◌≡◌, ℕ, ◌<◌, ◌≢◌, ◌⊎◌}
use lib.Bits.{bit_xor, xor_comm, xor_zero_r, xor_self, xor_assoc}
use Rattle.field.specs.Field.{product, inverse}
use Rattle.field.proofs.Sum.{xor32}
use Rattle.field.proofs.Product.{product-lt, product_comm, product_assoc, product_xor, one_product, inverse-lt, inverse-product, no_zero_divisors}

-- a field whose elements are the numbers below q, in which each element is its own negative
pub record Field (q : ℕ) (add mul : ℕ → ℕ → ℕ) (inv : ℕ → ℕ) : Type 0 where
  pub sum_inside : (a b : ℕ) → a < q → b < q → add a b < q
  pub sum_associative : (a b c : ℕ) → add (add a b) c ≡ add a (add b c)
  pub sum_commutative : (a b : ℕ) → add a b ≡ add b a
  pub sum_zero : (a : ℕ) → add a 0 ≡ a
  pub sum_self : (a : ℕ) → add a a ≡ 0
  pub product_inside : (a b : ℕ) → mul a b < q
  pub product_associative : (a b c : ℕ) → mul (mul a b) c ≡ mul a (mul b c)
  pub product_commutative : (a b : ℕ) → mul a b ≡ mul b a
  pub product_one : (a : ℕ) → a < q → mul 1 a ≡ a
  pub distributive : (a b c : ℕ) → mul a (add b c) ≡ add (mul a b) (mul a c)
  pub inverse_inside : (a : ℕ) → inv a < q
  pub inverses : (a : ℕ) → a < q → a ≢ 0 → mul (inv a) a ≡ 1
  pub no_divisors : (a b : ℕ) → a < q → b < q → mul a b ≡ 0 → (a ≡ 0) ⊎ (b ≡ 0)

pub gf32 : Field 32 bit_xor product inverse
gf32 = record {
  sum_inside = xor32;
  sum_associative = xor_assoc;
  sum_commutative = xor_comm;
  sum_zero = xor_zero_r;
  sum_self = xor_self;
  product_inside = product-lt;
  product_associative = product_assoc;
  product_commutative = product_comm;
  product_one = one_product;
  distributive = product_xor;
  inverse_inside = inverse-lt;
  inverses = inverse-product;
  no_divisors = no_zero_divisors;
}
