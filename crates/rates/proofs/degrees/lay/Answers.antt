-- `rates::degrees::lay` meets its contract. The invariant: the first v degrees stand at the front.
use mathlib.Core.Path.{◌≡◌, sym, ap, ◌∙◌}
use native.Mathlib.Omega.{arith}
use lib.ListN.{set}
use Rattle.lists.proofs.Choice.{pick_less, pick_not_less}
use Rattle.lists.proofs.Laid.{fill_start, fill_on, fill_end, fill_all}
use Rattle.rates.specs.Rate.{degree_at, rate_degrees}
use Rattle.rates.proofs.degrees.lay.Goals.{else-v-rate, then-v-rate}
use Rattle.rates.proofs.degrees.lay.Goals as goal

pub loop-v-init : goal.loop-v-init
loop-v-init c = fill_start (degree_at c.args.rate) _

pub loop-v-preserved : goal.loop-v-preserved
loop-v-preserved c =
    let l = c.loop-v in
    let r = c.args.rate in
    let e : c.if-v-rate.degree ≡ degree_at r l.v = elim c.if-v-rate.branch [
      | then-v-rate w ↦ w.degree-is ∙ sym (pick_less l.v r.heavy r.degree 2 w.if-v-rate.true)
      | else-v-rate w ↦ w.degree-is ∙ sym (pick_not_less l.v r.heavy r.degree 2 w.if-v-rate.false)
    ] in
    ap (set l.degrees l.v) e ∙ fill_on (degree_at r) _ _ _ (omega arith) l.invariant

pub returns : goal.returns
unfolding rate_degrees
returns c =
    let part = c.args.degrees.now in
    let e : c.loop-v.v ≡ c.args.rate.n = omega (arith, c.requires) in
    fill_end (degree_at c.args.rate) _ _ part _ e c.loop-v.invariant ∙ fill_all (degree_at c.args.rate) _ part (sym c.requires)
