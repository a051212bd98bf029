-- The rounds from a state on, by themselves: they "run on past a satisfied one". Document 01, "Words of the third demand".
-- Assumes nothing.
use Rattle.std.specs.Prelude.{ℕ, zero, suc, Bool, List, leb, replicate}
use Rattle.lists.specs.Choice.{pick}
use Rattle.lists.specs.Iter.{iter}
use Rattle.lists.specs.Lowest.{lowest}
use Rattle.lists.specs.Values.{values}
use Rattle.vectors.specs.Float32.{zero32}
use Rattle.vectors.specs.Vector.{Vector}
use Rattle.vectors.specs.Decision.{decision}
use Rattle.words.specs.Word.{all_satisfied}
use Rattle.rounds.specs.Tanner.{Tanner, graph_of}
use Rattle.rounds.specs.Round.{State, posteriors, after_round}

-- the state after r rounds
unfoldable pub after : Tanner → State → ℕ → State
after t s r = iter r (λ _ u. after_round t u) s

-- the posteriors of round r; "0.0 where no round was made"
unfoldable pub posteriors_after : Tanner → State → ℕ → ℕ → Vector
posteriors_after t s zero = λ _. replicate 32 zero32
posteriors_after t s (suc r) = posteriors t (after t s r)

-- its n decisions
unfoldable pub decisions : Tanner → State → ℕ → List ℕ
decisions t s r = values t.n (λ v. decision (posteriors_after t s r v))

-- "A round satisfies all checks where its n decisions do"
unfoldable pub satisfies : Tanner → State → ℕ → Bool
satisfies t s r = all_satisfied (graph_of t) (decisions t s r)

-- "the number of the first round up to the limit that satisfies all checks"; limit + 1 where there is none. Rounds are numbered from 1
unfoldable pub first_satisfied : Tanner → State → ℕ → ℕ
first_satisfied t s limit = lowest (satisfies t s) limit 1

-- "the number of the first round up to the limit that satisfies all checks, else the limit"
unfoldable pub rounds_made : Tanner → State → ℕ → ℕ
rounds_made t s limit = pick (leb (first_satisfied t s limit) limit) (first_satisfied t s limit) limit
