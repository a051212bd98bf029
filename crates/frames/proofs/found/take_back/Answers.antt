-- `frames::found::take_back` meets its contract.
use Prim.Native.Nat.{ℕ}
use mathlib.Core.Path.{◌≡◌, sym, ap, ◌∙◌}
use mathlib.Core.List.{List}
use native.Mathlib.Omega.{arith}
use lib.ListN.{length, take}
use lib.Seq.{length-take-le}
use Rattle.layouts.specs.Symbols.{padded_bits, padding_used}
use Rattle.frames.specs.SlotSymbols.{slot_symbols}
use Rattle.frames.proofs.Endings.{end_padding, end_bits}
use Rattle.frames.proofs.OnCode.{padded_is, slots_room, padded_long}
use Rattle.frames.proofs.found.take_back.Goals.{After-padded_bits-padded}
use Rattle.frames.proofs.found.take_back.Goals as goal

module _ (c : After-padded_bits-padded) where
  abbrev padded : List ℕ
  padded = padded_bits c.args.tables.now (slot_symbols c.args.code.now c.args.word.now)

  is_padded : c.padded_bits-padded.result ≡ padded
  is_padded = padded_is c.args.code.now c.requires.enough c.args.tables.now c.args.word.now c.own_symbols.ensures.syms_after c.padded_bits-padded.ensures

  long : length c.padded_bits-padded.result ≡ 260
  long = ap length is_padded ∙ padded_long c.args.tables.now (slot_symbols c.args.code.now c.args.word.now)

pub slice_bounds-padded_bits-end : goal.slice_bounds-padded_bits-end
slice_bounds-padded_bits-end c =
    sym (length-take-le 52 c.own_symbols.new.syms (slots_room c.args.code.now c.requires.enough c.args.word.now c.own_symbols.ensures.syms_after))

pub padded_bits-padded-requires : goal.padded_bits-padded-requires
padded_bits-padded-requires c =
    length-take-le 52 c.own_symbols.new.syms (slots_room c.args.code.now c.requires.enough c.args.word.now c.own_symbols.ensures.syms_after)

pub returns-then-padding_used-clause-answer : goal.returns-then-padding_used-clause-answer
returns-then-padding_used-clause-answer c =
    let r = (goal.at.returns-then-padding_used-clause-answer c).After-padded_bits-padded in
    end_padding (padding_used (padded r)) (sym (ap padding_used (is_padded r)) ∙ sym c.padding_used.ensures ∙ c.if-padding_used.true)

pub slice_bounds-copy-end : goal.slice_bounds-copy-end
slice_bounds-copy-end c =
    let r = (goal.at.slice_bounds-copy-end c).After-padded_bits-padded in sym (length-take-le 256 c.padded_bits-padded.result (omega (arith, long r)))

pub copy-requires : goal.copy-requires
copy-requires c =
    let r = (goal.at.copy-requires c).After-padded_bits-padded in
    c.requires.lengths.1 ∙ sym (length-take-le 256 c.padded_bits-padded.result (omega (arith, long r)))

pub returns-clause-answer : goal.returns-clause-answer
returns-clause-answer c =
    let r = (goal.at.returns-clause-answer c).After-padded_bits-padded in
    end_bits (padding_used (padded r)) (sym (ap padding_used (is_padded r)) ∙ sym c.padding_used.ensures ∙ c.if-padding_used.false)

pub returns-clause-bits_after : goal.returns-clause-bits_after
returns-clause-bits_after c =
    let r = (goal.at.returns-clause-bits_after c).After-padded_bits-padded in c.copy.ensures ∙ ap (take 256) (is_padded r)
