-- `lent::Lent::accepted` meets its contract: what its steps leave is a code that refusals 2 to 7 pass.
use lib.ListN.{length}
use Rattle.graph.specs.Parts.{lent}
use Rattle.lent.proofs.LentEnds.{early_fits, late_accepted}
use Rattle.lent.proofs.Lent.accepted.Goals as goal

pub invariant_of-result : goal.invariant_of-result
invariant_of-result c =
    let a = c.args in
    let l = c.self.inside in
    let p = lent l.var.now l.coef.now l.row.now l.start.now l.col.now l.order.now l.parity.now l.info.now l.a.now in
    rw (← c.self.view_is)
    (late_accepted l.numbers p (early_fits l.numbers p (length a.h.now) (length a.pivots.now) a.rest c.code_misfit-misfit.ensures c.in_ok-early.ensures)
    (rw (← c.self.view_is) at c.in_ok-tested.ensures))
