-- The state before the first round from its four passes: the channel vectors, the known zeros over them, the first messages and no posteriors.
-- Assumes nothing.
use Prim.Native.Nat.{ℕ, ◌+◌, ◌-◌, ◌<◌, ◌≤◌}
use mathlib.Core.Path.{◌≡◌, sym, ap, ◌∙◌}
use mathlib.Core.Logic.{◌⊎◌, ◌≢◌, inl, inr}
use mathlib.Core.List.{List}
use native.Mathlib.Omega.{arith}
use lib.Ieee.{Float}
use lib.ListN.{length, replicate}
use Rattle.lists.specs.Entry.{nth}
use Rattle.lists.specs.Values.{values}
use Rattle.lists.proofs.Among.{among_or_not, true-among, false-among}
use Rattle.lists.proofs.Choice.{pick-true, pick-false}
use Rattle.lists.proofs.Values.{values-length, values_at}
use Rattle.vectors.specs.Float32.{zero32}
use Rattle.vectors.specs.Vector.{vector}
use Rattle.vectors.specs.Channel.{channel}
use Rattle.vectors.specs.KnownZero.{known_zero}
use Rattle.rounds.specs.Begin.{past_known, channels}
use Rattle.rounds.specs.Work.{vectors_length, Wrote, to_check_at, post_at}
use Rattle.rounds.specs.Holds.{Begun}
use Rattle.rounds.specs.Ready.{Ends}

module _ (n edges k known : ℕ) (var info past : List ℕ) (past-long : length past ≡ k - known) (own : (t : ℕ) → t < k - known → nth past t ≡ nth info (known + t)) (metrics : List Float) (small : n ≤ 256) (y : Ends n edges var) (few : known ≤ k) (w₀ w₁ w₂ w₃ w₄ : List Float)
    (long : length w₀ ≡ vectors_length) (a : Wrote n (λ v. v) (λ v. channel (vector metrics v)) w₀ w₁)
    (b : Wrote (length past) (nth past) (λ _. known_zero) w₁ w₂) (c : Wrote edges to_check_at (λ e. vector w₂ (nth var e)) w₂ w₃)
    (d : Wrote n post_at (λ _. replicate 32 zero32) w₃ w₄) where
  abbrev positions : List ℕ
  positions = values k (nth info)

  -- the positions past the known count, as the definition has them
  count : length positions - known ≡ length past
  count = ap (λ (i : ℕ). i - known) (values-length (nth info) k) ∙ sym past-long

  at : (t : ℕ) → t < length past → nth positions (known + t) ≡ nth past t
  at t h = let l : t < k - known = omega (arith, past-long) in values_at (nth info) k (known + t) 0 (omega arith) ∙ sym (own t l)

  channel₂ : (v : ℕ) → v < n → vector w₂ v ≡ channels positions metrics known v
  unfolding channels past_known
  channel₂ v h = go (among_or_not (length past) (nth past) v)
    where
      go : ((t : ℕ) × (t < length past) × (nth past t ≡ v)) ⊎ ((t : ℕ) → t < length past → nth past t ≢ v) → vector w₂ v ≡ channels positions metrics known v
      go (inl (t, l, e)) =
          ap (vector w₂) (sym e) ∙ b.here t l
          ∙ sym (pick-true _ _ _ (true-among (length positions - known) (λ t. nth positions (known + t)) v t (omega (arith, count)) (at t l ∙ e)))
      go (inr q) =
          b.else v q ∙ a.here v h
          ∙ sym (pick-false _ _ _ (false-among (length positions - known) (λ t. nth positions (known + t)) v (λ t l e. let g : t < length past = omega (arith, count) in q t g (sym (at t g) ∙ e))))

  pub begun : Begun n edges var (channels positions metrics known) w₄
  begun = record {
    long = d.long ∙ c.long ∙ b.long ∙ a.long ∙ long;
    vectors = λ v h. d.else v (λ j l q. omega arith) ∙ c.else v (λ j l q. omega arith) ∙ channel₂ v h;
    messages = λ e h. d.else (to_check_at e) (λ j l q. omega (arith, y.few)) ∙ c.here e h ∙ channel₂ (nth var e) (y.vars e h);
    posted = d.here;
  }
