-- The call decode_soft: belief propagation's word, its count of rounds and the last posteriors. Document 01, part 4; nb.rs, `decode_soft`.
-- Assumes nothing.
use Rattle.std.specs.Prelude.{ℕ, ◌*◌, Bool, List, [], ◌∷◌, Result, Float, length}
use Rattle.lists.specs.Chain.{chain}
use Rattle.calls.specs.declared.Refusal.{Refusal}
use Rattle.calls.specs.Refusal.{first_of, answered, misfit}
use Rattle.calls.specs.Parts.{written, posted, counted}
use Rattle.graph.specs.declared.Code.{Code}
use Rattle.graph.specs.Parts.{Parts}
use Rattle.rounds.specs.Tanner.{Tanner, tanner_in}
use Rattle.rounds.specs.Round.{State}
use Rattle.rounds.specs.Rounds.{posteriors_after, decisions, rounds_made}
use Rattle.decoders.specs.declared.Decoding.{Decoding}
use Rattle.rounds.specs.Work.{vectors_length}
use Rattle.decoders.specs.BeliefPropagation.{start, rounds, tests, tests_from, all_tests}

-- the call's own parts: each length beside the one that it should have
abbrev pub own_lengths : Code → ℕ → ℕ → ℕ → ℕ → List (ℕ × ℕ)
own_lengths c metrics word posteriors vectors =
    (metrics, c.n * 32) ∷ (word, c.n) ∷ (posteriors, c.n * 32) ∷ (vectors, vectors_length) ∷ []

-- what it answers; word, posteriors, h, pivots and vectors are the parts' lengths
abbrev pub soft_answer : Code → Parts → List Float → ℕ → ℕ → ℕ → ℕ → ℕ → ℕ → ℕ → Result (Unit {0}) Refusal
soft_answer c p metrics known limit word posteriors h pivots vectors =
    answered (first_of (all_tests c p metrics known limit h pivots (misfit (own_lengths c (length metrics) word posteriors vectors)))) tt

-- the decisions and the posteriors of the last round that is made
abbrev pub last_decisions : Code → Parts → List Float → ℕ → ℕ → List ℕ
last_decisions c p metrics known limit = decisions (tanner_in c p) (start c p metrics known) (rounds c p metrics known limit)

abbrev pub last_posteriors : Code → Parts → List Float → ℕ → ℕ → List Float
last_posteriors c p metrics known limit = chain c.n (posteriors_after (tanner_in c p) (start c p metrics known) (rounds c p metrics known limit))

-- what it gives, together: the answer with its count, and the two output parts, which hold `word` and `posteriors` before
pub record DecodedSoft : Type 0 where
  pub answer : Decoding
  pub word : List ℕ
  pub posteriors : List Float

-- a decoding from any state on, which makes its rounds where none of the `early` tests turns it down
unfoldable pub decoded_from : List (Bool × Refusal) → Tanner → State → ℕ → List ℕ → List Float → DecodedSoft
decoded_from early t s limit word posteriors =
    let a : Result (Unit {0}) Refusal = answered (first_of (tests_from early t s limit)) tt in
    let r = rounds_made t s limit in
    record {
      answer = record { answer = a; rounds = counted a r };
      word = written a word (decisions t s r);
      posteriors = posted a posteriors (chain t.n (posteriors_after t s r));
    }

-- the call's: from the state that the metrics begin
unfoldable pub decode_soft : Code → Parts → List Float → ℕ → ℕ → List ℕ → List Float → ℕ → ℕ → ℕ → DecodedSoft
decode_soft c p metrics known limit word posteriors h pivots vectors =
    decoded_from (tests c p h pivots (misfit (own_lengths c (length metrics) (length word) (length posteriors) vectors)) limit)
    (tanner_in c p) (start c p metrics known) limit word posteriors
