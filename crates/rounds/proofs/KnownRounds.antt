-- A symbol that is known to be 0 is decided to be 0 in every round; a round's decisions.
-- Assumes nothing.
use Prim.Native.Nat.{ℕ, zero, suc, ◌+◌, ◌-◌, ◌<◌, ◌≤◌}
use mathlib.Core.Path.{◌≡◌, refl, sym, ap, subst}
use mathlib.Core.Bool.{true}
use mathlib.Core.List.{List}
use native.Mathlib.Omega.{arith}
use lib.Ieee.{Float, lt, of_bits}
use lib.ListN.{length, replicate}
use Rattle.lists.specs.Choice.{pick}
use Rattle.lists.specs.Entry.{nth}
use Rattle.lists.specs.Iter.{iter}
use Rattle.lists.proofs.Among.{true-among}
use Rattle.lists.proofs.Choice.{pick-true}
use Rattle.lists.proofs.Iter.{iter_keeps}
use Rattle.lists.proofs.Values.{values-length, values_at}
use Rattle.vectors.specs.Float32.{zero32}
use Rattle.vectors.specs.Vector.{Vector, vector, entry_product}
use Rattle.vectors.specs.Channel.{channel}
use Rattle.vectors.specs.Decision.{decision}
use Rattle.vectors.specs.Fine.{Fine}
use Rattle.vectors.specs.KnownZero.{known_zero, KnownInValue}
use Rattle.vectors.proofs.FineVectors.{decision_small}
use Rattle.vectors.proofs.KnownZero.{Known, in_value_known, known_in_value, known_product, known_decision}
use Rattle.rounds.specs.Tanner.{Tanner}
use Rattle.rounds.specs.VariableStep.{gathered, posterior}
use Rattle.rounds.specs.Round.{State, answers, posteriors}
use Rattle.rounds.specs.Begin.{past_known, channels, begin}
use Rattle.rounds.specs.Rounds.{after, posteriors_after, decisions}
use Rattle.rounds.proofs.FineRounds.{from_check_fine, after_channel}

gathered_known : (d : ℕ) (place : ℕ → ℕ) (from : ℕ → Vector) (p : Vector) → ((e : ℕ) → Fine (from e)) → Known p → Known (gathered d place from p)
unfolding gathered
gathered_known d place from p f k =
    iter_keeps (λ _ (q : Vector). Known q) d (λ j q. entry_product q (from (place j))) p k (λ j h q w. known_product q (from (place j)) w (f (place j)))

-- whatever floats the messages to checks are
pub known_posterior : (t : Tanner) (s : State) (v : ℕ) → KnownInValue (s.channel v) → decision (posteriors t s v) ≡ 0
unfolding posteriors posterior
known_posterior t s v e =
    known_decision _
    (gathered_known _ _ (answers t s) (s.channel v) (from_check_fine t.m t.coef t.row s.messages) (in_value_known (s.channel v) e))

-- the later information positions past the known count begin so
pub known_begun : (positions : List ℕ) (metrics : List Float) (known v : ℕ) → past_known positions known v ≡ true → KnownInValue (channels positions metrics known v)
unfolding channels
known_begun positions metrics known v e =
    subst KnownInValue (sym (pick-true (past_known positions known v) known_zero (channel (vector metrics v)) e)) known_in_value

pub known_channel : (t : Tanner) (positions : List ℕ) (metrics : List Float) (known i : ℕ) → known ≤ i → i < length positions
    → KnownInValue ((begin t positions metrics known).channel (nth positions i))
unfolding begin past_known
known_channel t positions metrics known i a b =
    let e : known + (i - known) ≡ i = omega arith in
    known_begun positions metrics known (nth positions i)
    (true-among (length positions - known) (λ k. nth positions (known + k)) (nth positions i) (i - known) (omega arith) (ap (nth positions) e))

-- where no round was made, the lowest of 32 equal values
none_decided : decision (replicate 32 zero32) ≡ 0
unfolding decision iter pick lt of_bits
none_decided = refl

module _ (t : Tanner) (s : State) where
  pub known_decided : (v : ℕ) → KnownInValue (s.channel v) → (r : ℕ) → decision (posteriors_after t s r v) ≡ 0
  unfolding posteriors_after
  known_decided v e zero = none_decided
  known_decided v e (suc r) = known_posterior t (after t s r) v (subst (λ (f : ℕ → Vector). KnownInValue (f v)) (sym (after_channel t s r)) e)

  -- ---- a round's decisions

  pub decisions-length : (r : ℕ) → length (decisions t s r) ≡ t.n
  unfolding decisions
  decisions-length r = values-length (λ v. decision (posteriors_after t s r v)) t.n

  pub decisions_at : (r v : ℕ) → v < t.n → nth (decisions t s r) v ≡ decision (posteriors_after t s r v)
  unfolding decisions
  decisions_at r v h = values_at (λ v. decision (posteriors_after t s r v)) t.n v 0 h

  pub decisions_small : (r v : ℕ) → v < t.n → nth (decisions t s r) v < 32
  decisions_small r v h = rw (decisions_at r v h) (decision_small (posteriors_after t s r v))
