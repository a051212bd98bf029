-- Belief propagation on a lent code: its rounds, and by which numbers it is turned down. Document 01, part 4, "Turning a call down" and "Words of the third demand".
-- Assumes nothing.
use Rattle.std.specs.Prelude.{ℕ, ◌+◌, ◌-◌, Bool, cond, ◌&&◌, List, [], ◌∷◌, ◌++◌, Result, Ok, Err, leb, ltb, Float}
use Rattle.lists.specs.AnyBelow.{any_below}
use Rattle.lists.specs.Entry.{nth}
use Rattle.calls.specs.declared.Refusal.{Refusal}
use Rattle.calls.specs.declared.Refusal.TheVariants.{WideCheck, NoWord}
use Rattle.graph.specs.declared.Code.{Code}
use Rattle.graph.specs.Parts.{Parts}
use Rattle.lent.specs.Misencoded.{graph_in}
use Rattle.lent.specs.LentCode.{code_refusals}
use Rattle.words.specs.Encoding.{information_of}
use Rattle.rounds.specs.Tanner.{Tanner, tanner_in}
use Rattle.rounds.specs.Round.{State}
use Rattle.rounds.specs.Begin.{begin}
use Rattle.rounds.specs.Rounds.{first_satisfied, rounds_made}

-- "A call's rounds follow from code, metrics, known count .. and from nothing else": the state that they begin from
unfoldable pub start : Code → Parts → List Float → ℕ → State
start c p metrics known = begin (tanner_in c p) (information_of (graph_in c p) p.order) metrics known

-- the first round up to the limit that satisfies all checks; limit + 1 where there is none
unfoldable pub first : Code → Parts → List Float → ℕ → ℕ → ℕ
first c p metrics known limit = first_satisfied (tanner_in c p) (start c p metrics known) limit

-- whether there is one
abbrev pub satisfied : Code → Parts → List Float → ℕ → ℕ → Bool
satisfied c p metrics known limit = leb (first c p metrics known limit) limit

-- how many rounds are made, and reported
unfoldable pub rounds : Code → Parts → List Float → ℕ → ℕ → ℕ
rounds c p metrics known limit = rounds_made (tanner_in c p) (start c p metrics known) limit

-- 9: "With one round or more, a check of degree above 32"
unfoldable pub wide : ℕ → List ℕ → Bool
wide m row = any_below m (λ i. ltb 32 (nth row (i + 1) - nth row i))

-- the tests before the rounds; h and pivots are the work parts' lengths, and `rest` says whether a part of the call's own has a wrong length
abbrev pub tests : Code → Parts → ℕ → ℕ → Bool → ℕ → List (Bool × Refusal)
tests c p h pivots rest limit = code_refusals c p h pivots rest ++ (ltb 0 limit && wide c.m p.row, WideCheck) ∷ []

-- 10: "Rounds that end without a word": after the rounds from any state on, `early` being the tests before them
abbrev pub tests_from : List (Bool × Refusal) → Tanner → State → ℕ → List (Bool × Refusal)
tests_from early t s limit = early ++ (ltb limit (first_satisfied t s limit), NoWord) ∷ []

-- the same of a lent code and the state that the metrics begin
abbrev pub all_tests : Code → Parts → List Float → ℕ → ℕ → ℕ → ℕ → Bool → List (Bool × Refusal)
all_tests c p metrics known limit h pivots rest = tests c p h pivots rest limit ++ (ltb limit (first c p metrics known limit), NoWord) ∷ []

-- the answer after the rounds, by whether one of them satisfied all checks
abbrev pub ended_by : Bool → Result (Unit {0}) Refusal
ended_by satisfied = cond satisfied (Ok tt) (Err NoWord)
