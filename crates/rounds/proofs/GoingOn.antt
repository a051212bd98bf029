-- Rounds one after another: one more is made, one satisfies all checks, the limit is met.
-- Assumes nothing.
use Prim.Native.Nat.{ℕ, ◌+◌, ◌-◌, ◌<◌, ◌≤◌}
use mathlib.Core.Path.{◌≡◌, sym, ap, subst, ◌∙◌}
use mathlib.Core.Bool.{Bool, true, false, false≢true}
use mathlib.Core.List.{List}
use native.Mathlib.Numerals.{add-one}
use native.Mathlib.Omega.{arith}
use borrow.Author.Tests.{le-leb, lt-leb}
use lib.Dec.{leb}
use lib.Ieee.{Float}
use Rattle.lists.specs.Lowest.{lowest}
use Rattle.lists.proofs.Choice.{pick-true, pick-false}
use Rattle.lists.proofs.Iter.{iter_start, iter_more}
use Rattle.lists.proofs.Lowest.{lowest_on, lowest_hit, lowest_end}
use Rattle.vectors.specs.Vector.{Vector}
use Rattle.words.specs.Word.{all_satisfied}
use Rattle.rounds.specs.Tanner.{Tanner, graph_of}
use Rattle.rounds.specs.Round.{State, after_round, posteriors}
use Rattle.rounds.specs.Rounds.{after, posteriors_after, decisions, satisfies, first_satisfied, rounds_made}
use Rattle.rounds.specs.Holds.{Holds, Posted, Rounded}
use Rattle.rounds.specs.GoneOn.{GoneOn}

module _ (t : Tanner) (s : State) where
  pub after_none : s ≡ after t s 0
  unfolding after
  after_none = iter_start (λ _ u. after_round t u) s

  pub after_more : (r : ℕ) → after t s (r + 1) ≡ after_round t (after t s r)
  unfolding after
  after_more r = iter_more r (λ _ u. after_round t u) s

  pub posteriors_more : (r : ℕ) → posteriors_after t s (r + 1) ≡ posteriors t (after t s r)
  unfolding posteriors_after
  posteriors_more r = ap (posteriors_after t s) (add-one r)

  -- r rounds are made, and none of them satisfied all checks: the first one that does is still ahead
  pub record Going (limit r : ℕ) (w : List Float) : Type 0 where
    pub state : Holds t (after t s r) w
    pub posted : Posted t (posteriors_after t s r) w
    pub ahead : lowest (satisfies t s) (limit + 1 - (r + 1)) (r + 1) ≡ first_satisfied t s limit

  pub going_start : (limit : ℕ) (w : List Float) → Holds t s w → Posted t (posteriors_after t s 0) w → Going limit 0 w
  unfolding first_satisfied
  going_start limit w h p = record {
    state = subst (λ (u : State). Holds t u w) after_none h;
    posted = p;
    ahead = let e : limit + 1 - (0 + 1) ≡ limit = omega arith in ap (λ (k : ℕ). lowest (satisfies t s) k 1) e;
  }

  module _ (limit r : ℕ) (below : r < limit) (w w' : List Float) (hard : List ℕ) (g : Going limit r w) (m : Rounded t (after t s r) w' hard) where
    pub made_state : Holds t (after t s (r + 1)) w'
    made_state = subst (λ (u : State). Holds t u w') (sym (after_more r)) m.state

    pub made_posted : Posted t (posteriors_after t s (r + 1)) w'
    made_posted = subst (λ (f : ℕ → Vector). Posted t f w') (sym (posteriors_more r)) m.posted

    pub made_decisions : hard ≡ decisions t s (r + 1)
    unfolding decisions
    made_decisions = rw (posteriors_more r) m.decided

    tested : (b : Bool) → b ≡ all_satisfied (graph_of t) hard → satisfies t s (r + 1) ≡ b
    unfolding satisfies
    tested b e = ap (all_satisfied (graph_of t)) (sym made_decisions) ∙ sym e

    -- it does not satisfy all checks
    pub going_on : {b : Bool} → b ≡ all_satisfied (graph_of t) hard → b ≡ false → Going limit (r + 1) w'
    going_on {b} e f = record {
      state = made_state;
      posted = made_posted;
      ahead = lowest_on (satisfies t s) (limit + 1) (r + 1) _ (omega arith) (tested b e ∙ f) g.ahead;
    }

    -- it does
    pub gone_first : {b : Bool} → b ≡ all_satisfied (graph_of t) hard → b ≡ true → GoneOn t s limit (record { satisfied = true; rounds = r + 1 }) w' hard
    unfolding rounds_made
    gone_first {b} e f =
        let q : r + 1 ≡ first_satisfied t s limit = lowest_hit (satisfies t s) (limit + 1) (r + 1) _ (omega arith) (tested b e ∙ f) g.ahead in
        let h : leb (first_satisfied t s limit) limit ≡ true = le-leb (first_satisfied t s limit) limit (omega arith) in
        record { satisfied = sym h; rounds = q ∙ sym (pick-true _ _ _ h); state = made_state; posted = made_posted; decided = λ _. made_decisions }

  -- the limit is met
  pub gone_none : (limit r : ℕ) (w : List Float) (hard : List ℕ) → limit ≤ r → r ≤ limit → Going limit r w → GoneOn t s limit (record { satisfied = false; rounds = r }) w hard
  unfolding rounds_made
  gone_none limit r w hard a b g =
      let q : r + 1 ≡ first_satisfied t s limit = lowest_end (satisfies t s) (limit + 1) (r + 1) _ (omega arith) g.ahead in
      let h : leb (first_satisfied t s limit) limit ≡ false = lt-leb (first_satisfied t s limit) limit (omega arith) in
      let e : r ≡ limit = omega arith in
      record { satisfied = sym h; rounds = e ∙ sym (pick-false _ _ _ h); state = g.state; posted = g.posted; decided = λ z. absurd (false≢true z) }
