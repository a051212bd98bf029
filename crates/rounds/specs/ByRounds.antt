-- What a decoding that makes its rounds from a state hands out, by those rounds alone (docs/PROMISE.md): it accepts exactly when one of the rounds up to the limit
-- satisfies all checks; its word is the decisions of the first that does, and the count is that round's, else the limit.
-- Assumes nothing.
use Rattle.std.specs.Prelude.{ℕ, ◌<◌, ◌≤◌, ◌≡◌, ◌↔◌, true, false, List}
use Rattle.lists.specs.Entry.{nth}
use Rattle.vectors.specs.KnownZero.{KnownInValue}
use Rattle.words.specs.Word.{Word}
use Rattle.rounds.specs.Tanner.{Tanner, graph_of}
use Rattle.rounds.specs.Round.{State}
use Rattle.rounds.specs.Rounds.{decisions, satisfies}

module _ (t : Tanner) (s : State) (limit : ℕ) where
  -- round r is one of those up to the limit, and satisfies all checks
  pub record Satisfied (r : ℕ) : Type 0 where
    pub from : 1 ≤ r
    pub upto : r ≤ limit
    pub satisfied : satisfies t s r ≡ true

  -- "no round up to the limit satisfies all checks"
  abbrev pub NoneSatisfied : Type 0
  NoneSatisfied = (r : ℕ) → 1 ≤ r → r ≤ limit → satisfies t s r ≡ false

  -- `accepted` says that it returns a word, `count` how many rounds it made from the state on
  pub record ByRounds (accepted : Type 0) (count : ℕ) (word : List ℕ) : Type 0 where
    pub exactly : accepted ↔ ((r : ℕ) × Satisfied r)
    -- the first that does
    pub counted : accepted → Satisfied count
    pub earliest : accepted → (r : ℕ) → 1 ≤ r → r < count → satisfies t s r ≡ false
    pub decided : accepted → word ≡ decisions t s count
    pub is_word : accepted → Word (graph_of t) word
    -- where the channel vector does not differ in value from the known zero's
    pub zeros : accepted → (v : ℕ) → v < t.n → KnownInValue (s.channel v) → nth word v ≡ 0
    -- else the limit
    pub limited : (accepted → ⊥) → count ≡ limit
    pub none : (accepted → ⊥) → NoneSatisfied
