-- What going on from a state leaves. Ours; no public call's contract cites it.
-- Assumes nothing.
use Rattle.std.specs.Prelude.{ℕ, ◌≡◌, true, List, leb, Float}
use Rattle.rounds.specs.declared.rounds.Ended.{Ended}
use Rattle.rounds.specs.Tanner.{Tanner}
use Rattle.rounds.specs.Round.{State}
use Rattle.rounds.specs.Rounds.{after, posteriors_after, decisions, first_satisfied, rounds_made}
use Rattle.rounds.specs.Holds.{Holds, Posted}

pub record GoneOn (t : Tanner) (s : State) (limit : ℕ) (r : Ended) (w : List Float) (hard : List ℕ) : Type 0 where
  pub satisfied : r.satisfied ≡ leb (first_satisfied t s limit) limit
  pub rounds : r.rounds ≡ rounds_made t s limit
  pub state : Holds t (after t s r.rounds) w
  pub posted : Posted t (posteriors_after t s r.rounds) w
  pub decided : r.satisfied ≡ true → hard ≡ decisions t s r.rounds
