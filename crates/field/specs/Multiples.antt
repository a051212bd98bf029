-- An element's products with 1, x, x², x³ and x⁴, and the product with any element as a sum of some of them. Ours, for a loop of products by one factor.
-- Assumes nothing.
use Rattle.std.specs.Prelude.{ℕ, ◌*◌, ◌/◌, ◌%◌, bit_xor}
use Rattle.field.specs.Field.{product}
use Rattle.field.specs.declared.multiples.Multiples.{Multiples}

unfoldable pub multiples_of : ℕ → Multiples
multiples_of f = record { m0 = product f 1; m1 = product f 2; m2 = product f 4; m3 = product f 8; m4 = product f 16 }

-- the multiples at the digits of p that are 1
unfoldable pub combined : Multiples → ℕ → ℕ
combined m p =
    bit_xor
    (bit_xor (bit_xor (bit_xor ((p % 2) * m.m0) ((p / 2 % 2) * m.m1)) ((p / 4 % 2) * m.m2)) ((p / 8 % 2) * m.m3))
    ((p / 16 % 2) * m.m4)
