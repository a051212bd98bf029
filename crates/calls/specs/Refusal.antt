-- By which refusal a call is turned down: document 01, "Turning a call down, in this order".
-- Assumes nothing.
use Rattle.std.specs.Prelude.{ℕ, Bool, false, not, cond, ◌||◌, List, [], ◌∷◌, Option, Some, None, Result, Ok, Err, eqb}
use Rattle.calls.specs.declared.Refusal.{Refusal}
use Rattle.calls.specs.declared.Refusal.TheVariants.{RateOrLayout, Size, Length, DegreeSum, DegreeTooHigh, Malformed, Misencoded, Value, WideCheck, NoWord, Padding}

-- the document's numbers
abbrev pub number_of : Refusal → ℕ
number_of RateOrLayout = 1
number_of Size = 2
number_of Length = 3
number_of DegreeSum = 4
number_of DegreeTooHigh = 5
number_of Malformed = 6
number_of Misencoded = 7
number_of Value = 8
number_of WideCheck = 9
number_of NoWord = 10
number_of Padding = 11

-- the refusal of the first test that holds: a call lists its tests, each with its refusal, in the document's order
abbrev pub first_of : List (Bool × Refusal) → Option Refusal
first_of [] = None
first_of (t ∷ ts) = cond t.0 (Some t.1) (first_of ts)

-- the answer: the refusal, or what the call finds
abbrev pub answered : {A : Type 0} → Option Refusal → A → Result A Refusal
answered None found = Ok found
answered (Some r) found = Err r

-- the number of an answer, 0 where the call was not turned down
abbrev pub answer_number : {A : Type 0} → Result A Refusal → ℕ
answer_number (Ok found) = 0
answer_number (Err r) = number_of r

-- whether one of several tests that share a number holds
unfoldable pub one_holds : List Bool → Bool
one_holds [] = false
one_holds (t ∷ ts) = t || one_holds ts

-- number 3, "A lent part of the wrong length": each part's length stands beside the one that it should have, and `rest` is the test of further parts
abbrev pub misfits : List (ℕ × ℕ) → Bool → Bool
misfits [] rest = rest
misfits (p ∷ ps) rest = not (eqb p.0 p.1) || misfits ps rest

abbrev pub misfit : List (ℕ × ℕ) → Bool
misfit ps = misfits ps false
