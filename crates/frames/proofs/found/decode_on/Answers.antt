-- `frames::found::decode_on` meets its contract: the tests decide one after the other.
use Prim.Native.Nat.{ℕ}
use mathlib.Core.Path.{◌≡◌, sym, ap, ap₂, subst, ◌∙◌}
use mathlib.Core.Bool.{Bool, false, not, ◌&&◌}
use mathlib.Core.List.{List, [], ◌∷◌}
use native.Mathlib.Omega.{arith}
use lib.Ieee.{Float}
use lib.ListN.{length}
use Rattle.std.specs.Prelude.{is_err}
use Rattle.lists.specs.Entry.{nth}
use Rattle.calls.specs.declared.Refusal.TheVariants.{NoWord, Padding}
use Rattle.calls.specs.Refusal.{first_of, answered}
use Rattle.calls.specs.Parts.{written}
use Rattle.lent.specs.Held.{Held}
use Rattle.lent.specs.Sound.{IsAccepted, IsSound}
use Rattle.layouts.specs.Layout.{Layout}
use Rattle.layouts.specs.Symbols.{padded_bits, own_bits, padding_used}
use Rattle.priors.specs.WithPriors.{with_priors}
use Rattle.decoders.specs.BeliefPropagation.{wide}
use Rattle.frames.specs.SlotSymbols.{slot_symbols, word_bits}
use Rattle.frames.specs.Found.{frame_metrics, frame_satisfied, frame_rounds, frame_posteriors, asks_list, frame_word}
use Rattle.frames.proofs.Endings.{is_ten, is_found, found_word, end_ten, end_word, ten_counts, word_counts}
use Rattle.frames.proofs.OnCode.{places_inside, metrics_are}
use Rattle.frames.proofs.found.decode_on.Goals.{After-with_priors, After-find_word-decoding, After-take_back}
use Rattle.frames.proofs.found.decode_on.Goals as goal

pub with_priors-requires-clause-positions_inside : goal.with_priors-requires-clause-positions_inside
with_priors-requires-clause-positions_inside c =
    let l = c.args.code.now in
    let w : IsSound l.code l.parts = (subst (λ (v : Held). IsAccepted v.code v.parts) c.code.view_is c.code.invariant).sound in
    let infos : c.lent.inside.info.now ≡ l.parts.info = ap (λ (v : Held). v.parts.info) (c.lent.view_is ∙ c.code.view_is) in
    λ j h.
    omega (
      arith,
      ap (λ (i : List ℕ). nth i (nth c.tables.inside.slot j)) infos,
      places_inside l w c.requires.enough (record { pos = c.tables.inside.pos; bit = c.tables.inside.bit; slot = c.tables.inside.slot }) c.tables.invariant (length c.args.metrics.now) c.requires.lengths.1 j h,
    )

-- ---- the metrics with the priors

module _ (c : After-with_priors) where
  abbrev code : Held
  code = c.args.code.now

  abbrev metrics : List Float
  metrics = frame_metrics c.args.code.now c.args.map c.args.metrics.now c.args.prior.now

  heard : c.with_priors.new.with ≡ metrics
  heard =
      let t : Layout = record { pos = c.tables.inside.pos; bit = c.tables.inside.bit; slot = c.tables.inside.slot } in
      let w : IsSound code.code code.parts = (subst (λ (v : Held). IsAccepted v.code v.parts) c.code.view_is c.code.invariant).sound in
      let infos : c.lent.inside.info.now ≡ code.parts.info = ap (λ (v : Held). v.parts.info) (c.lent.view_is ∙ c.code.view_is) in
      c.with_priors.ensures
      ∙ ap (λ (i : List ℕ). with_priors (nth t.bit) (λ j. nth i (nth t.slot j)) c.args.prior.now c.args.metrics.now) infos
      ∙ metrics_are code w c.requires.enough t c.tables.invariant c.args.map (c.tables.view_is ∙ c.tables-tables.ensures) c.args.metrics.now c.args.prior.now

-- ---- the word

module _ (c : After-find_word-decoding) where
  abbrev l : Held
  l = c.args.code.now

  abbrev m : List Float
  m = frame_metrics c.args.code.now c.args.map c.args.metrics.now c.args.prior.now

  same : c.with_priors.new.with ≡ m
  same = heard (goal.at.After-find_word-decoding c).After-with_priors

  abbrev none : Bool
  none = not (frame_satisfied l m) && not (asks_list c.args.fallback c.args.prior.now)

  narrow : wide l.code.m l.parts.row ≡ false
  narrow = sym c.too_wide.ensures ∙ c.if-too_wide.false

  word_answer : c.find_word-decoding.result.answer ≡ answered (first_of ((none, NoWord) ∷ [])) tt
  word_answer =
      c.find_word-decoding.ensures.answer
      ∙ ap₂ (λ (x : List Float) (b : Bool). answered (first_of ((not (frame_satisfied l x) && not b, NoWord) ∷ [])) tt) same c.asks_list.ensures

  rounds_are : c.find_word-decoding.result.rounds ≡ frame_rounds l m
  rounds_are = c.find_word-decoding.ensures.rounds ∙ ap (frame_rounds l) same

  posteriors_are : c.find_word-decoding.new.posteriors ≡ frame_posteriors l m
  posteriors_are = c.find_word-decoding.ensures.posteriors_after ∙ ap (frame_posteriors l) same

  abbrev padded : List ℕ
  padded = word_bits l c.args.map (frame_word l m)

  module _ (found : is_err c.find_word-decoding.result.answer ≡ false) where
    word_is : c.find_word-decoding.new.word ≡ frame_word l m
    word_is =
        found_word _ (frame_word l c.with_priors.new.with) (is_found (wide l.code.m l.parts.row) none false narrow word_answer found) c.find_word-decoding.ensures.word_after ∙ ap (frame_word l) same

    padded_are : padded_bits c.tables-tables.result (slot_symbols l c.find_word-decoding.new.word) ≡ padded
    unfolding word_bits
    padded_are = ap₂ (λ (t : Layout) (x : List ℕ). padded_bits t (slot_symbols l x)) c.tables-tables.ensures word_is

pub returns-then-is_err-clause-answer : goal.returns-then-is_err-clause-answer
returns-then-is_err-clause-answer c =
    let r = (goal.at.returns-then-is_err-clause-answer c).After-find_word-decoding in
    end_ten _ (none r) (padding_used (padded r)) (narrow r) (word_answer r) (sym c.is_err.ensures.value ∙ c.if-is_err.true)

pub returns-then-is_err-clause-rounds : goal.returns-then-is_err-clause-rounds
returns-then-is_err-clause-rounds c =
    let r = (goal.at.returns-then-is_err-clause-rounds c).After-find_word-decoding in
    rounds_are r ∙ ten_counts 0 _ (is_ten _ (none r) false (narrow r) (word_answer r) (sym c.is_err.ensures.value ∙ c.if-is_err.true))

pub returns-then-is_err-clause-posteriors_after : goal.returns-then-is_err-clause-posteriors_after
returns-then-is_err-clause-posteriors_after c =
    let r = (goal.at.returns-then-is_err-clause-posteriors_after c).After-find_word-decoding in
    posteriors_are r ∙ ten_counts c.args.posteriors.now _ (is_ten _ (none r) false (narrow r) (word_answer r) (sym c.is_err.ensures.value ∙ c.if-is_err.true))

-- ---- the bits

module _ (c : After-take_back) where
  abbrev r : After-find_word-decoding
  r = (goal.at.After-take_back c).After-find_word-decoding

  found : is_err c.find_word-decoding.result.answer ≡ false
  found = sym c.is_err.ensures.value ∙ c.if-is_err.false

  taken : c.take_back.result ≡ answered (first_of ((padding_used (padded r), Padding) ∷ [])) tt
  taken = c.take_back.ensures.answer ∙ ap (λ (b : List ℕ). answered (first_of ((padding_used b, Padding) ∷ [])) tt) (padded_are r found)

pub returns-clause-answer : goal.returns-clause-answer
returns-clause-answer c =
    let t = (goal.at.returns-clause-answer c).After-take_back in
    end_word _ (none (r t)) (padding_used (padded (r t))) (narrow (r t)) (word_answer (r t)) (found t) (taken t)

pub returns-clause-rounds : goal.returns-clause-rounds
returns-clause-rounds c =
    let t = (goal.at.returns-clause-rounds c).After-take_back in rounds_are (r t) ∙ word_counts (padding_used (padded (r t))) 0 _ (taken t)

pub returns-clause-bits_after : goal.returns-clause-bits_after
returns-clause-bits_after c =
    let t = (goal.at.returns-clause-bits_after c).After-take_back in
    c.take_back.ensures.bits_after ∙ ap (λ (b : List ℕ). written c.take_back.result c.args.bits.now (own_bits b)) (padded_are (r t) (found t))

pub returns-clause-posteriors_after : goal.returns-clause-posteriors_after
returns-clause-posteriors_after c =
    let t = (goal.at.returns-clause-posteriors_after c).After-take_back in
    posteriors_are (r t) ∙ word_counts (padding_used (padded (r t))) c.args.posteriors.now _ (taken t)
