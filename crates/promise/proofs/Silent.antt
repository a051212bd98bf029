-- Silence at the known zeros: belief propagation reads nothing of the metrics of symbols that are known to be zero.
-- Assumes nothing.
use Prim.Native.Nat.{ℕ}
use mathlib.Core.Path.{◌≡◌, sym, ap, ap₂, fun_ext, ◌∙◌}
use mathlib.Core.Logic.{◌⊎◌, ⊎_elim}
use mathlib.Core.Bool.{true}
use mathlib.Core.List.{List}
use lib.Ieee.{Float}
use lib.ListN.{length}
use Rattle.lists.specs.Choice.{pick}
use Rattle.lists.specs.Entry.{nth}
use Rattle.lists.proofs.Choice.{pick-true}
use Rattle.calls.specs.Refusal.{misfit}
use Rattle.graph.specs.declared.Code.{Code}
use Rattle.graph.specs.Parts.{Parts}
use Rattle.lent.specs.Misencoded.{graph_in}
use Rattle.words.specs.Encoding.{information_of}
use Rattle.vectors.specs.Channel.{channel}
use Rattle.vectors.specs.KnownZero.{known_zero}
use Rattle.vectors.specs.Vector.{Vector, vector}
use Rattle.rounds.specs.Begin.{past_known, channels, begin}
use Rattle.rounds.specs.Round.{State}
use Rattle.rounds.specs.Tanner.{tanner_in}
use Rattle.decoders.specs.BeliefPropagation.{start, tests}
use Rattle.decoders.specs.DecodeSoft.{own_lengths, decoded_from, decode_soft}

module _ (c : Code) (p : Parts) (metrics other : List Float) (known : ℕ) where
  abbrev positions : List ℕ
  positions = information_of (graph_in c p) p.order

  -- metrics of one length that differ only at information positions past the known count
  abbrev pub Silent : Type 0
  Silent = (length metrics ≡ length other) × ((v : ℕ) → (past_known positions known v ≡ true) ⊎ (vector metrics v ≡ vector other v))

  module _ (silent : Silent) where
    same_channel : (v : ℕ) → channels positions metrics known v ≡ channels positions other known v
    unfolding channels
    same_channel v =
        ⊎_elim
        (λ e. pick-true (past_known positions known v) known_zero (channel (vector metrics v)) e ∙ sym (pick-true (past_known positions known v) known_zero (channel (vector other v)) e))
        (ap (λ (q : Vector). pick (past_known positions known v) known_zero (channel q)))
        (silent.1 v)

    pub same_start : start c p metrics known ≡ start c p other known
    unfolding start begin
    same_start = ap (λ (f : ℕ → Vector). record { channel = f; messages = λ e. f (nth p.var e) }) (fun_ext same_channel)

    -- all of a call but the length of the metrics follows from the state that they begin
    pub same_decoding : (limit : ℕ) (word : List ℕ) (posteriors : List Float) (h pivots vectors : ℕ)
        → decode_soft c p metrics known limit word posteriors h pivots vectors ≡ decode_soft c p other known limit word posteriors h pivots vectors
    unfolding decode_soft
    same_decoding limit word posteriors h pivots vectors =
        ap₂ (λ (long : ℕ) (s : State).
        decoded_from (tests c p h pivots (misfit (own_lengths c long (length word) (length posteriors) vectors)) limit) (tanner_in c p) s limit word posteriors)
        silent.0 same_start
