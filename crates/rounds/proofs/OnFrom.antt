-- Rounds from a state that rounds left are those that come next: one run, laid down and taken up.
-- Assumes nothing.
use Prim.Native.Nat.{ℕ, zero, suc, ◌+◌, ◌-◌, ◌<◌, ◌≤◌}
use mathlib.Core.Path.{◌≡◌, sym, ap, subst, ◌∙◌}
use mathlib.Core.Logic.{⊎_elim}
use mathlib.Core.Bool.{true≢false}
use mathlib.Core.List.{List}
use native.Mathlib.Nat.{add-suc}
use native.Mathlib.Omega.{arith}
use Rattle.lists.specs.Iter.{iter}
use Rattle.lists.specs.Values.{values}
use Rattle.lists.proofs.Cases.{less_or_not}
use Rattle.vectors.specs.Decision.{decision}
use Rattle.vectors.specs.KnownZero.{KnownInValue}
use Rattle.vectors.specs.Vector.{Vector}
use Rattle.words.specs.Word.{all_satisfied}
use Rattle.rounds.specs.Tanner.{Tanner, graph_of}
use Rattle.rounds.specs.Round.{State, after_round, posteriors}
use Rattle.rounds.specs.Rounds.{after, posteriors_after, decisions, satisfies}
use Rattle.rounds.specs.ByRounds.{Satisfied, NoneSatisfied, ByRounds}
use Rattle.rounds.proofs.FineRounds.{after_channel}

module _ (t : Tanner) (s : State) (a : ℕ) where
  pub after_on : (r : ℕ) → after t (after t s a) r ≡ after t s (a + r)
  unfolding after iter
  after_on zero = let e : a ≡ a + 0 = omega arith in ap (λ (k : ℕ). iter k (λ _ u. after_round t u) s) e
  after_on (suc r) = ap (after_round t) (after_on r) ∙ ap (λ (k : ℕ). iter k (λ _ u. after_round t u) s) (sym (add-suc a r))

  -- from the first round on
  pub posteriors_on : (r : ℕ) → posteriors_after t (after t s a) (suc r) ≡ posteriors_after t s (a + suc r)
  unfolding posteriors_after
  posteriors_on r = ap (posteriors t) (after_on r) ∙ ap (posteriors_after t s) (sym (add-suc a r))

  decisions_next : (r : ℕ) → decisions t (after t s a) (suc r) ≡ decisions t s (a + suc r)
  unfolding decisions
  decisions_next r = ap (λ (f : ℕ → Vector). values t.n (λ v. decision (f v))) (posteriors_on r)

  pub decisions_on : (r : ℕ) → 1 ≤ r → decisions t (after t s a) r ≡ decisions t s (a + r)
  decisions_on zero h = absurd (omega arith)
  decisions_on (suc r) h = decisions_next r

  pub satisfies_on : (r : ℕ) → 1 ≤ r → satisfies t (after t s a) r ≡ satisfies t s (a + r)
  unfolding satisfies
  satisfies_on r h = ap (all_satisfied (graph_of t)) (decisions_on r h)

  -- round r of the whole run, past the first a
  satisfies_past : (r : ℕ) → a < r → satisfies t (after t s a) (r - a) ≡ satisfies t s r
  satisfies_past r h = let e : a + (r - a) ≡ r = omega arith in satisfies_on (r - a) (omega arith) ∙ ap (satisfies t s) e

  -- where the first a rounds do not accept, going on by b hands out what one run of a + b does
  module _ (b : ℕ) (accepted : Type 0) (count : ℕ) (word : List ℕ) (ahead : NoneSatisfied t s a) (w : ByRounds t (after t s a) b accepted count word) where
    whole : accepted → Satisfied t s (a + b) (a + count)
    whole y =
        let c = w.counted y in
        record { from = omega (arith, c.from); upto = omega (arith, c.upto); satisfied = sym (satisfies_on count c.from) ∙ c.satisfied }

    part : (r : ℕ) → Satisfied t s (a + b) r → accepted
    part r c =
        ⊎_elim
        (λ h. w.exactly.1 (r - a, record { from = omega arith; upto = omega (arith, c.upto); satisfied = satisfies_past r h ∙ c.satisfied }))
        (λ h. absurd (true≢false (sym c.satisfied ∙ ahead r c.from h)))
        (less_or_not a r)

    pub one_run : ByRounds t s (a + b) accepted (a + count) word
    one_run = record {
      exactly = (λ y. (a + count, whole y), λ q. part q.0 q.1);
      counted = whole;
      earliest = λ y r l h. ⊎_elim (λ k. sym (satisfies_past r k) ∙ w.earliest y (r - a) (omega arith) (omega arith)) (ahead r l) (less_or_not a r);
      decided = λ y. w.decided y ∙ decisions_on count (w.counted y).from;
      is_word = w.is_word;
      zeros = λ y v h e. w.zeros y v h (subst (λ (f : ℕ → Vector). KnownInValue (f v)) (sym (after_channel t s a)) e);
      limited = λ n. ap (λ (k : ℕ). a + k) (w.limited n);
      none = λ n r l h. ⊎_elim (λ k. sym (satisfies_past r k) ∙ w.none n (r - a) (omega arith) (omega arith)) (ahead r l) (less_or_not a r);
    }
