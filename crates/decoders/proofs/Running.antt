-- What `run` begins with is the state of the definition, and what it leaves in front of a part are the decisions.
-- Assumes nothing.
use Prim.Native.Nat.{ℕ, ◌≤◌}
use mathlib.Core.Path.{◌≡◌, sym, ap, subst, ◌∙◌}
use mathlib.Core.Logic.{◌⊎◌, inl, inr}
use mathlib.Core.List.{List, ◌++◌}
use lib.Ieee.{Float}
use lib.ListN.{length, take}
use lib.Seq.{take_at}
use Rattle.lists.specs.Entry.{nth}
use Rattle.rounds.specs.declared.rounds.Ended.{Ended}
use Rattle.rounds.specs.Tanner.{Tanner}
use Rattle.rounds.specs.Round.{State}
use Rattle.rounds.specs.Begin.{channels, begin}
use Rattle.rounds.specs.Rounds.{posteriors_after}
use Rattle.rounds.specs.Holds.{Holds, Posted, Begun}
use Rattle.rounds.specs.GoneOn.{GoneOn}
use Rattle.decoders.proofs.Beginning.{channels_count}

module _ (t : Tanner) (positions : List ℕ) (metrics : List Float) (known first : ℕ) (w : List Float) (b : Begun t.n t.edges t.var (channels positions metrics first) w)
    (c : (first ≡ known) ⊎ ((first ≡ length positions) × (length positions ≤ known))) where
  same : (v : ℕ) → channels positions metrics first v ≡ channels positions metrics known v
  same v = go c
    where
      go : (first ≡ known) ⊎ ((first ≡ length positions) × (length positions ≤ known)) → channels positions metrics first v ≡ channels positions metrics known v
      go (inl e) = ap (λ (k : ℕ). channels positions metrics k v) e
      go (inr (e, h)) = ap (λ (k : ℕ). channels positions metrics k v) e ∙ channels_count positions metrics known v h

  pub begun_holds : Holds t (begin t positions metrics known) w
  unfolding begin
  begun_holds = record { long = b.long; channel = λ v h. b.vectors v h ∙ same v; messages = λ e h. b.messages e h ∙ same (nth t.var e) }

  pub begun_posted : Posted t (posteriors_after t (begin t positions metrics known) 0) w
  unfolding posteriors_after
  begun_posted = b.posted

pub gone_front : (t : Tanner) (s : State) (limit : ℕ) (r : Ended) (w : List Float) (n : ℕ) (hard rest : List ℕ) → length hard ≡ n → GoneOn t s limit r w hard
    → GoneOn t s limit r w (take n (hard ++ rest))
gone_front t s limit r w n hard rest e g = subst (GoneOn t s limit r w) (sym (take_at hard rest n e)) g
