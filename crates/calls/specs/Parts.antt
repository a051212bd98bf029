-- What a call leaves in each kind of lent part, by its answer: document 01, the paragraphs after the list of numbers.
-- Assumes nothing.
use Rattle.std.specs.Prelude.{ℕ, ◌-◌, Bool, cond, not, ◌||◌, ◌&&◌, List, ◌++◌, Result, Ok, Err, eqb, leb, length, replicate}
use Rattle.calls.specs.declared.Refusal.{Refusal}
use Rattle.calls.specs.Refusal.{number_of}

-- ---- three classes of refusals. A number that a later request adds "leaves what 4 to 9 leave, or touches nothing where it is checked before 3": it is one before
-- rounds, as it stands, or is added to those that touch nothing

-- "Numbers 1 to 3 touch nothing"
abbrev pub touches_nothing : Refusal → Bool
touches_nothing r = leb (number_of r) 3

-- 10 and 11: a decoding came to its rounds, of which there may be none
abbrev pub after_rounds : Refusal → Bool
after_rounds r = eqb (number_of r) 10 || eqb (number_of r) 11

-- 4 to 9: the call was turned down with its parts at hand, and a decoding did not come to its rounds
abbrev pub before_rounds : Refusal → Bool
before_rounds r = not (touches_nothing r) && not (after_rounds r)

-- ---- the parts

-- a work part: "later returns, good or refused, leave work parts zero"; `blank` is the element's zero
abbrev pub worked : {A B : Type 0} → Result A Refusal → B → List B → List B
worked (Ok found) blank given = replicate (length given) blank
worked (Err r) blank given = cond (touches_nothing r) given (replicate (length given) blank)

-- an output part: "Numbers 4 to 11 leave every output part but the posteriors as given, code parts included"
abbrev pub written : {A B : Type 0} → Result A Refusal → B → B → B
written (Ok found) given new = new
written (Err r) given new = given

-- posteriors: they "hold the last round's values after acceptance, 10 or 11 (0.0 where no round was made), and are untouched by 4 to 9"
abbrev pub posted : {A B : Type 0} → Result A Refusal → B → B → B
posted (Ok found) given new = new
posted (Err r) given new = cond (after_rounds r) new given

-- the count of rounds: "zero for refusals 1 to 9"
abbrev pub counted : {A : Type 0} → Result A Refusal → ℕ → ℕ
counted answer rounds = posted answer 0 rounds

-- an output part of n entries that is longer than the answer: "its length is returned and the rest of the part is 0"
unfoldable pub padded {ℓ} : {A : Type ℓ} → ℕ → A → List A → List A
padded n blank answer = answer ++ replicate (n - length answer) blank
