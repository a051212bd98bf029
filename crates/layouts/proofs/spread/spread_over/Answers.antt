-- `layouts::spread::spread_over` meets its contract.
use mathlib.Core.Path.{ap₂, ◌∙◌}
use mathlib.Core.Bool.{false, not}
use mathlib.Core.List.{List}
use Prim.Native.Nat.{ℕ}
use native.Mathlib.Omega.{arith}
use lib.ListN.{length, get_or}
use Rattle.lists.specs.Entry.{nth}
use Rattle.lists.specs.Placed.{placed}
use Rattle.lists.proofs.Keep.{keep_below_passes}
use Rattle.layouts.proofs.SpreadParts.{bits_count, free_count, spread_parts}
use Rattle.layouts.proofs.spread.spread_over.Goals as goal

pub fill-requires : goal.fill-requires
fill-requires c =
    let slots = c.args.slots.now in
    let d = c.deal_bits-given in
    let bits = c.deref.ensures.0 ∙ c.unmarked.ensures in
    let places = c.deref-2.ensures.0 ∙ c.unmarked-2.ensures in
    rw (bits, places) (
      omega
          (arith, bits_count slots c.requires.0 d.result.used d.result.taken d.ensures.marks.0 d.ensures.marks.1, free_count slots c.requires.0 d.result.used d.result.taken d.ensures.marks.0 d.ensures.marks.1),
      λ i h. (keep_below_passes (λ x. not (get_or d.result.used x false)) 260 i h).0,
    )

pub returns : goal.returns
returns c =
    let d = c.deal_bits-given in
    let bits = c.deref.ensures.0 ∙ c.unmarked.ensures in
    let places = c.deref-2.ensures.0 ∙ c.unmarked-2.ensures in
    c.fill.ensures
    ∙ ap₂ (λ (b p : List ℕ). placed (length b) (nth b) (nth p) d.result.pos) bits places
    ∙ rw d.ensures.pos_value (spread_parts c.args.slots.now c.requires.0 d.result.used d.result.taken d.ensures.marks.0 d.ensures.marks.1)
