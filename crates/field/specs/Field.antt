-- The field of 32 elements, as published: polynomials over two elements modulo x⁵ + x² + 1.
-- A number stands for the polynomial whose coefficients are its binary digits, that of xⁱ at digit i: 19, which is 10011 in binary, for x⁴ + x + 1.
-- The sum goes coefficient by coefficient and is the library's exclusive or, `bit_xor`. The elements are the polynomials of degree below 5, the numbers below 32.
-- Assumes nothing.
use Rattle.std.specs.Prelude.{ℕ, zero, suc, ◌+◌, ◌*◌, ◌/◌, ◌%◌, ◌^◌, cond, bit_xor, nat_lt}

-- x⁵ + x² + 1, which is 100101 in binary
abbrev pub modulus : ℕ
modulus = 37

-- the product of the polynomials a, of d coefficients, and b: (a₀ + x·a')·b = a₀·b + x·(a'·b)
unfoldable pub poly_mul : ℕ → ℕ → ℕ → ℕ
poly_mul zero a b = 0
poly_mul (suc d) a b = bit_xor ((a % 2) * b) (2 * poly_mul d (a / 2) b)

-- the remainder by the modulus of a polynomial p of 5 + d coefficients. Of 6 + d coefficients the highest is that of x to the power 5 + d: where it is 1, the
-- modulus times x to the power d, which cancels it, is taken away
unfoldable pub poly_rem : ℕ → ℕ → ℕ
poly_rem zero p = p
poly_rem (suc d) p = poly_rem d (cond (nat_lt p (2 ^ (5 + d))) p (bit_xor p (modulus * 2 ^ d)))

-- the product of two elements; of a number above 31 the five lowest digits count
unfoldable pub product : ℕ → ℕ → ℕ
unfolding poly_mul poly_rem
product a b = poly_rem 4 (poly_mul 5 (a % 32) (b % 32))

unfoldable pub power : ℕ → ℕ → ℕ
unfolding product
power a zero = 1
power a (suc k) = product a (power a k)

-- the inverse of an element other than 0, whose 31st power is 1
unfoldable pub inverse : ℕ → ℕ
unfolding power
inverse a = power a 30
