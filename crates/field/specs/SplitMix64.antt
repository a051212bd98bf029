-- SplitMix64, as published: the generator of Steele, Lea and Flood (OOPSLA 2014) with the increment, shifts and constants of Vigna's splitmix64.c.
-- The state is a number below 2 ^ 64; every sum and product is taken modulo 2 ^ 64.
-- Assumes nothing.
use Rattle.std.specs.Prelude.{ℕ, ◌+◌, ◌*◌, ◌/◌, ◌%◌, ◌^◌, List, bit_xor}
use Rattle.lists.specs.Iter.{iter}
use Rattle.lists.specs.Values.{values}

-- the next state
unfoldable pub next : ℕ → ℕ
next s = (s + 0x9E37_79B9_7F4A_7C15) % 2 ^ 64

-- z and z shifted right by k, by exclusive or
unfoldable pub xor_shifted : ℕ → ℕ → ℕ
xor_shifted k z = bit_xor z (z / 2 ^ k)

unfoldable pub times : ℕ → ℕ → ℕ
times c z = z * c % 2 ^ 64

-- what is drawn at a state
unfoldable pub output : ℕ → ℕ
output z = xor_shifted 31 (times 0x94D0_49BB_1331_11EB (xor_shifted 27 (times 0xBF58_476D_1CE4_E5B9 (xor_shifted 30 z))))

-- a draw: the state steps on, and its output is drawn
unfoldable pub draw : ℕ → ℕ
draw s = output (next s)

-- the state after k draws
unfoldable pub after : ℕ → ℕ → ℕ
after k s = iter k (λ _ t. next t) s

-- the first n draws
unfoldable pub drawn : ℕ → ℕ → List ℕ
drawn n s = values n (λ k. draw (after k s))
