-- How the work part of vectors holds a state: before the first round, and after one. Ours; no public call's contract cites it.
-- Assumes nothing.
use Rattle.std.specs.Prelude.{ℕ, ◌<◌, ◌≡◌, List, Float, length, replicate}
use Rattle.lists.specs.Entry.{nth}
use Rattle.lists.specs.Values.{values}
use Rattle.vectors.specs.Decision.{decision}
use Rattle.vectors.specs.Float32.{zero32}
use Rattle.vectors.specs.Vector.{Vector, vector}
use Rattle.rounds.specs.Tanner.{Tanner}
use Rattle.rounds.specs.Round.{State, posteriors, after_round}
use Rattle.rounds.specs.Work.{vectors_length, to_checks, posts}

-- w holds the state
pub record Holds (t : Tanner) (s : State) (w : List Float) : Type 0 where
  pub long : length w ≡ vectors_length
  pub channel : (v : ℕ) → v < t.n → vector w v ≡ s.channel v
  pub messages : (e : ℕ) → e < t.edges → to_checks w e ≡ s.messages e

-- and the posteriors
abbrev pub Posted : Tanner → (ℕ → Vector) → List Float → Type 0
Posted t f w = (v : ℕ) → v < t.n → posts w v ≡ f v

-- w holds what the round from state s leaves, and `hard` its decisions
pub record Rounded (t : Tanner) (s : State) (w : List Float) (hard : List ℕ) : Type 0 where
  pub state : Holds t (after_round t s) w
  pub posted : Posted t (posteriors t s) w
  pub decided : hard ≡ values t.n (λ v. decision (posteriors t s v))

-- w holds what the first round takes, by the channel vectors
pub record Begun (n edges : ℕ) (var : List ℕ) (channel : ℕ → Vector) (w : List Float) : Type 0 where
  pub long : length w ≡ vectors_length
  pub vectors : (v : ℕ) → v < n → vector w v ≡ channel v
  pub messages : (e : ℕ) → e < edges → to_checks w e ≡ channel (nth var e)
  pub posted : (v : ℕ) → v < n → posts w v ≡ replicate 32 zero32
