-- Messages from checks are finite and not negative whatever came in; so are posteriors in every round.
-- Assumes nothing.
use Prim.Native.Nat.{ℕ, zero, suc}
use mathlib.Core.Path.{◌≡◌, refl}
use mathlib.Core.Bool.{Bool, true, false}
use mathlib.Core.List.{List}
use lib.Ieee.{Float, nan, of_bits}
use lib.ListN.{length, length-replicate, get_or-replicate}
use Rattle.lists.specs.Choice.{pick}
use Rattle.lists.proofs.Iter.{iter_keeps}
use Rattle.vectors.specs.Float32.{zero32}
use Rattle.vectors.specs.Vector.{Vector, vector, entry_product}
use Rattle.vectors.specs.Channel.{channel}
use Rattle.vectors.specs.Fine.{Unsigned, Fine}
use Rattle.vectors.specs.KnownZero.{known_zero}
use Rattle.vectors.proofs.FineVectors.{fine_unsigned, product_unsigned, normalized_unsigned, read_back_fine}
use Rattle.vectors.proofs.ChannelFine.{channel_fine}
use Rattle.vectors.proofs.KnownZero.{known_zero_fine}
use Rattle.rounds.specs.Tanner.{Tanner}
use Rattle.rounds.specs.CheckStep.{outgoing, from_check}
use Rattle.rounds.specs.VariableStep.{gathered, posterior}
use Rattle.rounds.specs.Round.{State, answers, posteriors, after_round}
use Rattle.rounds.specs.Begin.{past_known, channels}
use Rattle.rounds.specs.Rounds.{after, posteriors_after}
use Rattle.rounds.proofs.Lengths.{posterior-length}

-- ---- messages from checks, and channel vectors

pub from_check_fine : (m : ℕ) (coef row : List ℕ) (to : ℕ → Vector) (e : ℕ) → Fine (from_check m coef row to e)
unfolding from_check outgoing
from_check_fine m coef row to e = read_back_fine _ _

pick_fine : (test : Bool) (p q : Vector) → Fine p → Fine q → Fine (pick test p q)
unfolding pick
pick_fine true p q f g = f
pick_fine false p q f g = g

pub channels_fine : (positions : List ℕ) (metrics : List Float) (known v : ℕ) → Fine (channels positions metrics known v)
unfolding channels
channels_fine positions metrics known v =
    pick_fine (past_known positions known v) known_zero (channel (vector metrics v)) known_zero_fine (channel_fine (vector metrics v))

-- ---- posteriors

gathered_unsigned : (d : ℕ) (place : ℕ → ℕ) (from : ℕ → Vector) (p : Vector) → ((e : ℕ) → Fine (from e)) → Unsigned p → Unsigned (gathered d place from p)
unfolding gathered
gathered_unsigned d place from p f u =
    iter_keeps (λ _ (q : Vector). Unsigned q) d (λ j q. entry_product q (from (place j))) p u (λ j h q w. product_unsigned q (from (place j)) w (f (place j)))

pub posteriors_fine : (t : Tanner) (s : State) (v : ℕ) → Fine (s.channel v) → Fine (posteriors t s v)
unfolding posteriors posterior
posteriors_fine t s v f =
    normalized_unsigned _
    (gathered_unsigned _ _ (answers t s) (s.channel v) (from_check_fine t.m t.coef t.row s.messages) (fine_unsigned (s.channel v) f))

-- ---- in every round

module _ (t : Tanner) (s : State) where
  -- rounds keep the channel vectors
  pub after_channel : (r : ℕ) → (after t s r).channel ≡ s.channel
  unfolding after after_round
  after_channel r = iter_keeps (λ _ (u : State). u.channel ≡ s.channel) r (λ _ u. after_round t u) s refl (λ _ _ u e. e)

  pub posteriors_after-length : (r v : ℕ) → length (posteriors_after t s r v) ≡ 32
  unfolding posteriors_after posteriors
  posteriors_after-length zero v = length-replicate 32 zero32
  posteriors_after-length (suc r) v = posterior-length _ _ _ _ v

  pub posteriors_after_fine : (v : ℕ) → Fine (s.channel v) → (r : ℕ) → Fine (posteriors_after t s r v)
  unfolding posteriors_after
  posteriors_after_fine v f zero = λ x l. rw (get_or-replicate 32 x zero32 nan l) (unfold of_bits in tt)
  posteriors_after_fine v f (suc r) = posteriors_fine t (after t s r) v (rw (after_channel r) f)
