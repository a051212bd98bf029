-- `field::splitmix64::SplitMix64::draws` meets its contract. The invariant: k draws stand at the front of `out`, and the state is that after k draws.
use Rattle.std.proofs.Common.{refl, ap, ◌∙◌, arith}
use Rattle.lists.proofs.Laid.{fill_start, fill_on, fill_end, fill_all}
use Rattle.field.specs.SplitMix64.{draw, drawn}
use Rattle.field.proofs.Generator.{after_start, after_on}
use Rattle.field.proofs.splitmix64.SplitMix64.draws.Invariants.{from}
use Rattle.field.proofs.splitmix64.SplitMix64.draws.Goals as goal

pub loop-place-init : goal.loop-place-init
loop-place-init c = record { drawn = fill_start _ _; on = after_start _ }

pub loop-place-preserved : goal.loop-place-preserved
loop-place-preserved c =
    let i = c.loop-place.invariant in
    let value = c.draw.ensures.value ∙ ap draw i.on in
    record {
      drawn = rw value (fill_on (from _) _ _ _ c.loop-place-test.true i.drawn);
      on = c.draw.ensures.state_value ∙ after_on _ _ _ i.on;
    }

pub returns-clause-out_after : goal.returns-clause-out_after
unfolding drawn
returns-clause-out_after c = fill_end (from _) _ _ c.args.out.now _ (omega arith) c.loop-place.invariant.drawn ∙ fill_all (from _) _ c.args.out.now refl
