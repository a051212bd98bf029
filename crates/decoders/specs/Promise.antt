-- What is promised of the decoders (docs/PROMISE.md), of every lent code, "whatever the metrics .., NaN and infinity included, and whatever the known count and limit", of all
-- posteriors and widths, and of all lent parts.
-- Assumes nothing.
use Rattle.std.specs.Prelude.{ℕ, ◌≡◌, List, Ok, Err, Float}
use Rattle.calls.specs.declared.Refusal.{Refusal}
use Rattle.calls.specs.Refusal.{number_of}
use Rattle.graph.specs.declared.Code.{Code}
use Rattle.graph.specs.Parts.{Parts}
use Rattle.rounds.specs.Round.{State}
use Rattle.decoders.specs.BeliefPropagation.{start}
use Rattle.decoders.specs.Decode.{Decoded, decode}
use Rattle.decoders.specs.DecodeSoft.{DecodedSoft, decode_soft}
use Rattle.decoders.specs.Decodes.{ComesToRounds, Decodes}
use Rattle.decoders.specs.ListDecode.{ListDecoded, list_decode}
use Rattle.decoders.specs.ListDecodes.{Passes, ListDecodes}
use Rattle.decoders.specs.Propagates.{Propagates}

module _
    -- what belief propagation and the list decoder are given
    (c : Code) (p : Parts) (metrics : List Float) (known limit : ℕ) (likely : List Float) (width : ℕ)
    -- the lent parts, of work parts their lengths
    (word : List ℕ) (posteriors : List Float) (h pivots vectors : ℕ) where
  -- what the calls give, and the state from which rounds are made
  abbrev soft : DecodedSoft
  soft = decode_soft c p metrics known limit word posteriors h pivots vectors

  abbrev hard : Decoded
  hard = decode c p metrics known limit word h pivots vectors

  abbrev listed : ListDecoded
  listed = list_decode c p metrics likely width word h pivots

  abbrev begun : State
  begun = start c p metrics known

  pub record Promise : Type 0 where
    -- "unless refused by a number other than 10", the call with posteriors comes to its rounds, and decodes by them
    pub comes : ((r : Refusal) → soft.answer.answer ≡ Err r → number_of r ≡ 10) → ComesToRounds c p metrics known limit word posteriors h pivots vectors
    pub decodes : ComesToRounds c p metrics known limit word posteriors h pivots vectors → Decodes c p metrics known limit word posteriors h pivots vectors
    -- of both calls, by their answers
    pub soft_rounds : Propagates c p begun known limit soft.answer.answer soft.answer.rounds soft.word
    pub hard_rounds : Propagates c p begun known limit hard.answer.answer hard.answer.rounds hard.word
    -- no refusal turned down a call of the list decoder that accepts, and each that none turns down finds the best of the candidates
    pub list_passes : listed.answer.answer ≡ Ok tt → Passes c p metrics likely width word h pivots
    pub list_decodes : Passes c p metrics likely width word h pivots → ListDecodes c p metrics likely width word h pivots

abbrev pub Promised : Type 0
Promised = (c : Code) (p : Parts) (metrics : List Float) (known limit : ℕ) (likely : List Float) (width : ℕ)
    → (word : List ℕ) (posteriors : List Float) (h pivots vectors : ℕ)
    → Promise c p metrics known limit likely width word posteriors h pivots vectors
