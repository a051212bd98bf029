-- What is promised of a call of belief propagation (docs/PROMISE.md), by its answer, its count of rounds and its word part: "every word accepted .. is one", "zero at every information
-- position past the known count", exactly by its rounds "unless refused by a number other than 10", and what refusal 10 means.
-- Assumes nothing.
use Rattle.std.specs.Prelude.{ℕ, ◌<◌, ◌≤◌, ◌≡◌, List, Result, Ok, Err, length}
use Rattle.lists.specs.Entry.{nth}
use Rattle.calls.specs.declared.Refusal.{Refusal}
use Rattle.calls.specs.Refusal.{number_of, answer_number}
use Rattle.graph.specs.declared.Code.{Code}
use Rattle.graph.specs.Parts.{Parts}
use Rattle.lent.specs.Misencoded.{graph_in}
use Rattle.words.specs.Encoding.{information_of}
use Rattle.words.specs.Word.{Word}
use Rattle.rounds.specs.Tanner.{tanner_in}
use Rattle.rounds.specs.Round.{State}
use Rattle.rounds.specs.ByRounds.{ByRounds, NoneSatisfied}

-- of rounds from any state on: "A call accepts where it returns a word", and `count` is how many rounds it reports from there on
module _ (c : Code) (p : Parts) (s : State) (known limit : ℕ) where
  abbrev positions : List ℕ
  positions = information_of (graph_in c p) p.order

  pub record Propagates (answer : Result (Unit {0}) Refusal) (count : ℕ) (word : List ℕ) : Type 0 where
    pub words : answer ≡ Ok tt → Word (graph_in c p) word
    pub zeros : answer ≡ Ok tt → (i : ℕ) → known ≤ i → i < length positions → nth word (nth positions i) ≡ 0
    pub rounds : ((r : Refusal) → answer ≡ Err r → number_of r ≡ 10) → ByRounds (tanner_in c p) s limit (answer ≡ Ok tt) count word
    pub ten : answer_number answer ≡ 10 → NoneSatisfied (tanner_in c p) s limit
