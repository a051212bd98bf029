-- A float is finite exactly where its difference with itself is 0; and a fraction of 0 rounds to 0.
-- Assumes nothing.
use Prim.Native.Nat.{ℕ, ◌-◌, ◌*◌, ◌<◌}
use mathlib.Core.Path.{◌≡◌, refl, ap, ◌∙◌}
use mathlib.Core.Bool.{true, false, not}
use native.Mathlib.Nat.{mul-pos}
use native.Mathlib.Omega.{arith}
use borrow.Author.Tests.{le-ltb}
use lib.Dec.{ltb}
use lib.IntN.{ℤ, pos}
use lib.Ieee.{Float, nan, inf, fin, binary32, up, down, round, sub, ne, of_bits}
use lib.Ieee.Fits.{down_pos}
use lib.Ieee.Scale.{finite, round_same}
use Rattle.vectors.specs.Float32.{zero32}

-- +0
abbrev pub nil : Float
nil = fin false 0 (pos 0)

round-nil : round binary32 false 0 1 ≡ nil
unfolding round
round-nil = refl

pub round-zero : (a c : ℕ) → a ≡ 0 → 0 < c → round binary32 false a c ≡ nil
round-zero a c e h = round_same binary32 false a c 0 1 h (omega arith) (omega arith) ∙ round-nil

module _ (m : ℕ) (e : ℤ) where
  -- in units of 1 / c
  abbrev a : ℕ
  a = m * up e * down e

  abbrev c : ℕ
  c = down e * down e

  rounded : round binary32 false (a - a) c ≡ nil
  rounded = let z : a - a ≡ 0 = omega arith in round-zero (a - a) c z (mul-pos (down_pos e) (down_pos e))

  same : ltb a a ≡ false
  same = le-ltb a a (omega arith)

  difference : (s : _) → sub binary32 (fin s m e) (fin s m e) ≡ nil
  unfolding sub
  difference true = rw same rounded
  difference false = rw same rounded

pub ne-sub_self : (x : Float) → ne (sub binary32 x x) zero32 ≡ not (finite x)
unfolding ne sub of_bits
ne-sub_self nan = refl
ne-sub_self (inf true) = refl
ne-sub_self (inf false) = refl
ne-sub_self (fin s m e) = ap (λ (y : Float). ne y zero32) (difference m e s)
