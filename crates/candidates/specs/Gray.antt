-- The reflected binary code, in which numbers that follow each other differ in one digit, and the sum of a word with the generators at the digits of a number that are 1.
-- Gray 1953, "Pulse code communication"; nb.rs, `list_decode`, visits the candidates in this order.
-- Assumes nothing.
use Rattle.std.specs.Prelude.{ℕ, ◌/◌, ◌%◌, ◌^◌, List, eqb}
use Rattle.std.specs.Int.Bits.{bit_xor}
use Rattle.lists.specs.Choice.{pick}
use Rattle.lists.specs.Iter.{iter}
use Rattle.words.specs.Linear.{sum_of}

unfoldable pub gray : ℕ → ℕ
gray i = bit_xor i (i / 2)

-- binary digit j of a number, the lowest first
abbrev pub digit : ℕ → ℕ → ℕ
digit c j = c / 2 ^ j % 2

-- generator j of w is added where digit j of c is 1
unfoldable pub combination : (ℕ → List ℕ) → List ℕ → ℕ → ℕ → List ℕ
combination gens base w c = iter w (λ j x. pick (eqb (digit c j) 1) (sum_of x (gens j)) x) base
