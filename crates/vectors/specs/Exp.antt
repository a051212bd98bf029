-- The exponential of t from -60 to 0 that stands in for the library's, step by step. Document 01, "Stand-ins".
-- Assumes nothing.
use Rattle.std.specs.Prelude.{ℕ, ◌+◌, Bool, Float}
use Rattle.std.specs.Float.{binary32}
use Rattle.std.specs.Float.Ieee.{add, mul, div, le, neg, of_bits}
use Rattle.lists.specs.Iter.{iter}
use Rattle.lists.specs.While.{while}
use Rattle.vectors.specs.Float32.{one32}

-- "while t ≤ −1 add 1 and count k": from -60 on, 60 times at most
abbrev pub not_reduced : Float × ℕ → Bool
not_reduced s = le s.0 (neg one32)

abbrev pub add_one : Float × ℕ → Float × ℕ
add_one s = (add binary32 s.0 one32, s.1 + 1)

unfoldable pub reduced : Float → Float × ℕ
reduced t = while 60 not_reduced add_one (t, 0)

-- "r = t/8; q = 1 + r/4; q = 1 + (r/3)·q; q = 1 + (r/2)·q; q = 1 + r·q; square q three times"
abbrev pub series : Float → Float
series t =
    let r = div binary32 t (of_bits binary32 0x4100_0000) in
    let q = add binary32 one32 (div binary32 r (of_bits binary32 0x4080_0000)) in
    let q = add binary32 one32 (mul binary32 (div binary32 r (of_bits binary32 0x4040_0000)) q) in
    let q = add binary32 one32 (mul binary32 (div binary32 r (of_bits binary32 0x4000_0000)) q) in
    let q = add binary32 one32 (mul binary32 r q) in
    let q = mul binary32 q q in
    let q = mul binary32 q q in
    mul binary32 q q

-- "multiply k times by the f32 with bits 3EBC5AB2 hexadecimal"
abbrev pub shrink : Float → Float
shrink q = mul binary32 q (of_bits binary32 0x3EBC_5AB2)

unfoldable pub exp : Float → Float
exp t = let s = reduced t in iter s.1 (λ _ q. shrink q) (series s.0)
