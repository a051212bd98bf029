-- `peeling::lay_picks` meets its contract: a sound code may be peeled.
use lib.ListN.{length}
use Rattle.calls.proofs.Parts.{padded_filled}
use Rattle.graph.specs.Parts.{lent}
use Rattle.peeling.proofs.Peelable.{peelable}
use Rattle.peeling.proofs.lay_picks.Goals as goal

pub invariant_of-edges : goal.invariant_of-edges
invariant_of-edges c =
    let p = let a = c.lent.inside in lent a.var.now a.coef.now a.row.now a.start.now a.col.now a.order.now a.parity.now a.info.now a.a.now in
    record { peelable = peelable c.lent.inside.numbers p (rw (← c.lent.view_is) at c.code.invariant).sound }

pub returns-clause-picks_after : goal.returns-clause-picks_after
returns-clause-picks_after c =
    let r = rw (← c.code.view_is, ← c.lent.view_is) at c.requires in
    rw (← c.code.view_is, ← c.lent.view_is)
    (padded_filled c.lent.inside.numbers.n (length c.args.picks.now) 0 _ _ _ r.1 (c.fill.ensures.after (λ y e. e)) (c.peel.ensures.picks_after c.lent.inside.coef.now))
