-- A round: the check step, then the variable step. "Their state is channel vectors and messages to checks." Document 01, "A round" and "Words of the third demand".
-- Assumes nothing.
use Rattle.std.specs.Prelude.{ℕ}
use Rattle.lists.specs.Entry.{nth}
use Rattle.vectors.specs.Vector.{Vector}
use Rattle.rounds.specs.Tanner.{Tanner}
use Rattle.rounds.specs.CheckStep.{from_check}
use Rattle.rounds.specs.VariableStep.{posterior, to_check}

-- a vector for each variable, and one for each place of the edge list
pub record State : Type 0 where
  pub channel : ℕ → Vector
  pub messages : ℕ → Vector

-- the messages from checks, and the posteriors, that the round from state s makes
abbrev pub answers : Tanner → State → ℕ → Vector
answers t s = from_check t.m t.coef t.row s.messages

unfoldable pub posteriors : Tanner → State → ℕ → Vector
posteriors t s v = posterior t.start t.col s.channel (answers t s) v

-- "each round .. takes what the last one left"
unfoldable pub after_round : Tanner → State → State
after_round t s = record {
  channel = s.channel;
  messages = λ e. to_check t.start t.col s.channel (answers t s) (nth t.var e) e;
}
