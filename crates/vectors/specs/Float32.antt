-- The f32 constants of the decoders. Document 01; nb.rs.
-- Assumes nothing.
use Rattle.std.specs.Prelude.{Float}
use Rattle.std.specs.Float.{binary32}
use Rattle.std.specs.Float.Ieee.{neg, of_bits}

-- 0, 1 and 1/32
abbrev pub zero32 : Float
zero32 = of_bits binary32 0

abbrev pub one32 : Float
one32 = of_bits binary32 0x3F80_0000

abbrev pub uniform32 : Float
uniform32 = of_bits binary32 0x3D00_0000

-- 1e-30
abbrev pub tiny32 : Float
tiny32 = of_bits binary32 0x0DA2_4260

-- the greatest and the least finite f32
abbrev pub greatest32 : Float
greatest32 = of_bits binary32 0x7F7F_FFFF

abbrev pub least32 : Float
least32 = neg greatest32

-- -60
abbrev pub minus_sixty32 : Float
minus_sixty32 = neg (of_bits binary32 0x4270_0000)
