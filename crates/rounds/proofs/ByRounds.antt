-- Every decoding that takes the first satisfied round from a state, or makes as many as the limit, hands out what its rounds say: whatever floats the state holds.
-- Assumes nothing.
use Prim.Native.Nat.{ℕ, ◌<◌, ◌≤◌}
use mathlib.Core.Path.{◌≡◌, sym, ap, ◌∙◌}
use mathlib.Core.Logic.{⊎_elim}
use mathlib.Core.Bool.{true, true≢false, false≢true}
use mathlib.Core.List.{List}
use native.Mathlib.Omega.{arith}
use borrow.Author.Tests.{le-leb, lt-leb}
use lib.Dec.{leb}
use lib.Ieee.{Float}
use Rattle.lists.specs.Entry.{nth}
use Rattle.lists.proofs.Cases.{less_or_not}
use Rattle.lists.proofs.Choice.{pick-true, pick-false}
use Rattle.lists.proofs.Lowest.{IsLowest, lowest_is}
use Rattle.elimination.specs.Held.{held}
use Rattle.vectors.specs.KnownZero.{KnownInValue}
use Rattle.words.specs.Word.{Word}
use Rattle.words.proofs.CheckSums.{all_satisfied-true}
use Rattle.rounds.specs.declared.rounds.Ended.{Ended}
use Rattle.rounds.specs.Tanner.{Tanner, graph_of}
use Rattle.rounds.specs.Round.{State}
use Rattle.rounds.specs.Rounds.{decisions, satisfies, first_satisfied, rounds_made}
use Rattle.rounds.specs.ByRounds.{Satisfied, ByRounds}
use Rattle.rounds.specs.GoneOn.{GoneOn}
use Rattle.rounds.proofs.KnownRounds.{known_decided, decisions-length, decisions_at, decisions_small}

module _ (t : Tanner) (s : State) where
  -- ---- the decisions of round r

  pub decisions_word : (r : ℕ) → satisfies t s r ≡ true → Word (graph_of t) (decisions t s r)
  unfolding satisfies held
  decisions_word r e = record {
    symbols = record { long = decisions-length t s r; small = decisions_small t s r };
    satisfied = (all_satisfied-true (graph_of t) (decisions t s r)).0 e;
  }

  pub decisions-zero : (r v : ℕ) → v < t.n → KnownInValue (s.channel v) → nth (decisions t s r) v ≡ 0
  decisions-zero r v h e = decisions_at t s r v h ∙ known_decided t s v e r

  -- ---- the first round

  module _ (limit : ℕ) where
    abbrev f : ℕ
    f = first_satisfied t s limit

    first_is : IsLowest (satisfies t s) limit 1 f
    unfolding first_satisfied
    first_is = lowest_is (satisfies t s) limit 1

    Satisfied-first : f ≤ limit → Satisfied t s limit f
    Satisfied-first h = record { from = first_is.from; upto = h; satisfied = first_is.found (omega arith) }

    pub rounds_hit : f ≤ limit → rounds_made t s limit ≡ f
    unfolding rounds_made
    rounds_hit h = pick-true (leb f limit) f limit (le-leb f limit h)

    pub rounds_miss : limit < f → rounds_made t s limit ≡ limit
    unfolding rounds_made
    rounds_miss h = pick-false (leb f limit) f limit (lt-leb f limit h)

    -- what accepts where the first satisfied round is within the limit, and there only, hands out its decisions and reports how many rounds are made
    pub by_rounds : (accepted : Type 0) (count : ℕ) (word : List ℕ) → (f ≤ limit → accepted) → (limit < f → accepted → ⊥) → count ≡ rounds_made t s limit
        → (accepted → word ≡ decisions t s count) → ByRounds t s limit accepted count word
    by_rounds accepted count word hit miss made decided =
        let done : accepted → f ≤ limit = λ a. ⊎_elim (λ h. absurd (miss h a)) (λ h. h) (less_or_not limit f) in
        let missed : (accepted → ⊥) → limit < f = λ n. ⊎_elim (λ h. h) (λ h. absurd (n (hit h))) (less_or_not limit f) in
        let first : accepted → count ≡ f = λ a. made ∙ rounds_hit (done a) in
        record {
          exactly = (
            λ a. (f, Satisfied-first (done a)),
            λ w. ⊎_elim (λ h. absurd (true≢false (sym w.1.satisfied ∙ first_is.none w.0 w.1.from (omega (arith, w.1.upto))))) hit (less_or_not limit f),
          );
          counted = λ a. rw (first a) (Satisfied-first (done a));
          earliest = λ a. rw (first a) first_is.none;
          decided = decided;
          is_word = λ a. rw (decided a, first a) (decisions_word f (Satisfied-first (done a)).satisfied);
          zeros = λ a v h e. ap (λ (w : List ℕ). nth w v) (decided a) ∙ decisions-zero count v h e;
          limited = λ n. made ∙ rounds_miss (missed n);
          none = λ n r a b. first_is.none r a (omega (arith, missed n));
        }

    -- so does going on
    pub gone_by_rounds : (r : Ended) (w : List Float) (hard : List ℕ) → GoneOn t s limit r w hard → ByRounds t s limit (r.satisfied ≡ true) r.rounds hard
    gone_by_rounds r w hard g =
        by_rounds (r.satisfied ≡ true) r.rounds hard
        (λ h. g.satisfied ∙ le-leb f limit h)
        (λ h e. false≢true (sym (lt-leb f limit h) ∙ sym g.satisfied ∙ e))
        g.rounds g.decided
