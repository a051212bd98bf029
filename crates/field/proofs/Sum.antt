-- The field's sum, the exclusive or: with the library's `xor_assoc`, `xor_comm`, `xor_zero_r` and `xor_self` it is an abelian group in which each element is its own inverse.
-- Assumes nothing.
use Rattle.std.proofs.Common.{◌≡◌, ℕ, ◌%◌, ◌<◌, sym, ap, ◌∙◌, mod-lt, lit<}
use lib.Bits.{bit_xor, xor_lt, xor_comm, xor_zero_l, xor_zero_r, xor_self, xor_assoc}

pub mod2 : (n : ℕ) → n % 2 < 2
mod2 n = mod-lt n (lit< tt)

-- the middle two of four change places
pub xor_inter : (p q r s : ℕ) → bit_xor (bit_xor p q) (bit_xor r s) ≡ bit_xor (bit_xor p r) (bit_xor q s)
xor_inter p q r s =
    xor_assoc p q (bit_xor r s)
    ∙ ap (bit_xor p) (sym (xor_assoc q r s) ∙ ap (λ (x : ℕ). bit_xor x s) (xor_comm q r) ∙ xor_assoc r q s)
    ∙ sym (xor_assoc p r (bit_xor q s))

-- a term added twice is gone
pub xor_cancel : (a b : ℕ) → bit_xor a (bit_xor a b) ≡ b
xor_cancel a b = sym (xor_assoc a a b) ∙ ap (λ (x : ℕ). bit_xor x b) (xor_self a) ∙ xor_zero_l b

-- two whose sum is 0 are the same
pub xor_equal : (a b : ℕ) → bit_xor a b ≡ 0 → a ≡ b
xor_equal a b e = sym (xor_zero_r a) ∙ ap (bit_xor a) (sym e) ∙ xor_cancel a b

pub xor32 : (a b : ℕ) → a < 32 → b < 32 → bit_xor a b < 32
xor32 = xor_lt 5
