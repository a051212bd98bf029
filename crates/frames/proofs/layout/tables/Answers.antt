-- `frames::layout::tables` meets its contract. The invariant: the degrees of the first j slots are written.
use mathlib.Core.Path.{ap, ◌∙◌}
use native.Mathlib.Omega.{arith}
use lib.ListN.{set}
use Rattle.lists.specs.Entry.{nth}
use Rattle.lists.proofs.Laid.{fill_start, fill_on, fill_whole}
use Rattle.lent.specs.Held.{Held}
use Rattle.lent.specs.LentCode.{graph_of}
use Rattle.words.specs.Degree.{degree_in}
use Rattle.layouts.specs.Maps.{layout_of}
use Rattle.frames.specs.SlotSymbols.{slot_degree, slot_degrees, layout_in}
use Rattle.frames.proofs.Slots.{slot_inside, slot_degree_is}
use Rattle.frames.proofs.layout.tables.Goals as goal

pub loop-j-init : goal.loop-j-init
loop-j-init c = fill_start _ _

pub degree-requires : goal.degree-requires
degree-requires c =
    let w = (rw c.code.view_is at c.code.invariant).sound in
    let info = ap (λ (l : Held). nth l.parts.info c.loop-j.j) (c.lent.view_is ∙ c.code.view_is) in
    omega (arith, info, slot_inside c.args.code.now w c.requires c.loop-j.j c.loop-j-test.true)

pub loop-j-preserved : goal.loop-j-preserved
loop-j-preserved c =
    let l = c.loop-j in
    let code = c.args.code.now in
    let w = (rw c.code.view_is at c.code.invariant).sound in
    let info = ap (λ (l : Held). nth l.parts.info c.loop-j.j) (c.lent.view_is ∙ c.code.view_is) in
    ap (set l.d-items l.j) (c.degree.ensures ∙ ap (degree_in (graph_of code)) info ∙ slot_degree_is code w c.requires l.j c.loop-j-test.true)
    ∙ fill_on (slot_degree code) _ _ _ (omega arith) l.invariant

pub returns : goal.returns
unfolding layout_in slot_degrees
returns c =
    let degrees = fill_whole (slot_degree c.args.code.now) 52 _ _ _ (omega arith) (omega arith) c.loop-j.invariant in
    c.of.ensures ∙ ap (layout_of c.args.map) degrees
