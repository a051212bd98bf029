-- `priors::metrics::add_to_ones` meets its contract. The invariant: the first v entries are changed.
use mathlib.Core.Path.{◌≡◌, ap, sym, ◌∙◌}
use native.Mathlib.Omega.{arith}
use lib.Ieee.{Float, binary32, add, nan}
use lib.ListN.{set}
use Rattle.lists.specs.Choice.{pick}
use Rattle.lists.proofs.Choice.{pick-true, pick-false}
use Rattle.lists.proofs.Laid.{fill_start}
use Rattle.lists.proofs.InPlace.{each_on}
use Rattle.vectors.specs.Vector.{at}
use Rattle.vectors.proofs.Filled.{filled}
use Rattle.priors.specs.WithPriors.{is_one}
use Rattle.priors.proofs.metrics.add_to_ones.Goals.{Joined-is_one, then-is_one, else-is_one}
use Rattle.priors.proofs.metrics.add_to_ones.Goals as goal

-- what stands there after the branch
chosen : (c : Joined-is_one) → c.if-is_one.x ≡ (let y = at c.loop-v.x-items c.loop-v.v in pick (is_one c.loop-v.v c.args.k) (add binary32 y c.args.one) y)
chosen c =
    elim c.if-is_one.branch [ then-is_one w ↦ w.x-is ∙ sym (pick-true _ _ _ (sym c.is_one.ensures ∙ w.if-is_one.true)) | else-is_one w ↦ w.x-is ∙ sym (pick-false _ _ _ (sym c.is_one.ensures ∙ w.if-is_one.false)) ]

pub loop-v-init : goal.loop-v-init
loop-v-init c = fill_start _ _

pub loop-v-preserved : goal.loop-v-preserved
loop-v-preserved c =
    let r = (goal.at.loop-v-preserved c).Joined-is_one in
    ap (λ (y : Float). set c.loop-v.x-items c.loop-v.v y) (chosen r) ∙ each_on (λ v y. pick (is_one v c.args.k) (add binary32 y c.args.one) y) nan _ _ _ (omega arith) c.loop-v.invariant

pub returns : goal.returns
returns c = filled _ _ _ _ (omega arith) (omega arith) c.loop-v.invariant
