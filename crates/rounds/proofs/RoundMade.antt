-- A round from its three steps: the messages from checks, the posteriors with their decisions, and the messages to checks.
-- Assumes nothing.
use Prim.Native.Nat.{ℕ, ◌<◌}
use mathlib.Core.Path.{◌≡◌, ap, ◌∙◌}
use mathlib.Core.List.{List}
use native.Mathlib.Omega.{arith}
use lib.Ieee.{Float}
use Rattle.lists.specs.Entry.{nth}
use Rattle.lists.specs.Values.{values}
use Rattle.lists.proofs.Values.{values_ext}
use Rattle.vectors.specs.Vector.{vector}
use Rattle.vectors.specs.Decision.{decision}
use Rattle.rounds.specs.Tanner.{Tanner}
use Rattle.rounds.specs.VariableStep.{posterior, to_check}
use Rattle.rounds.specs.Round.{State, answers, posteriors, after_round}
use Rattle.rounds.specs.Checked.{Made}
use Rattle.rounds.specs.Work.{to_checks, from_checks, Wrote, to_check_at, post_at, from_check_at}
use Rattle.rounds.specs.Holds.{Holds, Rounded}
use Rattle.rounds.specs.Ready.{Ready}
use Rattle.rounds.proofs.Alike.{from_check_ext, posterior_ext, to_check_ext}

module _ (t : Tanner) (y : Ready t) (s : State) (w₀ w₁ w₂ w₃ : List Float) (hard : List ℕ) (z : Holds t s w₀) (a : Made t.m t.coef t.row w₀ w₁ t.m)
    (b : Wrote t.n post_at (posterior t.start t.col (vector w₁) (from_checks w₁)) w₁ w₂)
    (d : hard ≡ values t.n (λ v. decision (posterior t.start t.col (vector w₁) (from_checks w₁) v)))
    (c : Wrote t.edges to_check_at (λ e. to_check t.start t.col (vector w₂) (from_checks w₂) (nth t.var e) e) w₂ w₃) where
  -- the channel, and the messages from checks, after each step
  channel₁ : (v : ℕ) → v < t.n → vector w₁ v ≡ s.channel v
  channel₁ v h = a.state v (omega (arith, y.columns.small)) ∙ z.channel v h

  from₁ : (e : ℕ) → e < t.edges → from_checks w₁ e ≡ answers t s e
  from₁ e h =
      let g : e < nth t.row t.m = omega (arith, y.by_check) in
      a.made e g ∙ from_check_ext t.m t.coef t.row y.rows (to_checks w₀) s.messages (λ i l. z.messages i (omega (arith, y.by_check))) e g

  channel₂ : (v : ℕ) → v < t.n → vector w₂ v ≡ s.channel v
  channel₂ v h = b.else v (λ j l q. omega (arith, y.columns.small)) ∙ channel₁ v h

  from₂ : (e : ℕ) → e < t.edges → from_checks w₂ e ≡ answers t s e
  from₂ e h = b.else (from_check_at e) (λ j l q. omega (arith, y.ends.few)) ∙ from₁ e h

  posterior₁ : (v : ℕ) → v < t.n → posterior t.start t.col (vector w₁) (from_checks w₁) v ≡ posteriors t s v
  unfolding posteriors
  posterior₁ v h =
      posterior_ext t.n t.start t.col y.columns (vector w₁) s.channel (from_checks w₁) (answers t s) v h (channel₁ v h)
      (λ e l. from₁ e (omega (arith, y.by_variable)))

  message₃ : (e : ℕ) → e < t.edges → to_checks w₃ e ≡ (after_round t s).messages e
  unfolding after_round
  message₃ e h =
      c.here e h
      ∙ to_check_ext t.n t.start t.col y.columns (vector w₂) s.channel (from_checks w₂) (answers t s) (nth t.var e) (y.ends.vars e h)
      (channel₂ (nth t.var e) (y.ends.vars e h)) (λ i l. from₂ i (omega (arith, y.by_variable))) e

  channel₃ : (v : ℕ) → v < t.n → vector w₃ v ≡ (after_round t s).channel v
  unfolding after_round
  channel₃ v h = c.else v (λ j l q. omega (arith, y.columns.small)) ∙ channel₂ v h

  pub rounded : Rounded t s w₃ hard
  rounded = record {
    state = record { long = c.long ∙ b.long ∙ a.long ∙ z.long; channel = channel₃; messages = message₃ };
    posted = λ v h. c.else (post_at v) (λ j l q. omega (arith, y.ends.few)) ∙ b.here v h ∙ posterior₁ v h;
    decided = d ∙ values_ext t.n _ _ 0 (λ v h. ap decision (posterior₁ v h));
  }
