-- `priors::metrics::with_priors` meets its contract. The invariant: the first j symbols' metrics are changed.
use Prim.Native.Nat.{◌+◌, ◌*◌}
use mathlib.Core.Path.{refl, ap, ◌∙◌}
use mathlib.Core.List.{List}
use native.Mathlib.Omega.{arith}
use lib.Ieee.{Float}
use Rattle.lists.specs.Entry.{nth}
use Rattle.lists.specs.Iter.{iter}
use Rattle.lists.proofs.Iter.{iter_start, iter_on, iter_end}
use Rattle.vectors.specs.Vector.{stored}
use Rattle.priors.specs.WithPriors.{with_bits, with_priors}
use Rattle.priors.proofs.WithBits.{bits_from}
use Rattle.priors.proofs.metrics.with_priors.Invariants.{turn}
use Rattle.priors.proofs.metrics.with_priors.Goals as goal

pub loop-j-init : goal.loop-j-init
loop-j-init c = (refl, iter_start _ _)

pub loop-j-preserved : goal.loop-j-preserved
loop-j-preserved c =
    let a = c.args in
    let l = c.loop-j in
    let place = nth a.info.now (nth a.slot.now l.j) in
    let changed = c.add_bits-q.ensures ∙ bits_from a.prior.now a.bit.now (5 * l.j) _ c.load-p.result (omega arith)
    ∙ ap (with_bits a.prior.now (λ k. nth a.bit.now (5 * l.j + k))) c.load-p.ensures in (
      omega (arith, c.store.auto.part, l.invariant.0),
      c.store.ensures ∙ ap (stored l.with place) changed ∙ iter_on l.j (turn a.info.now a.bit.now a.slot.now a.prior.now) _ l.with l.invariant.1,
    )

pub returns : goal.returns
unfolding with_priors
returns c =
    let a = c.args in
    iter_end 52 c.loop-j.j (turn a.info.now a.bit.now a.slot.now a.prior.now) _ _ (omega arith) c.loop-j.invariant.1
    ∙ ap (λ (m : List Float). iter 52 (turn a.info.now a.bit.now a.slot.now a.prior.now) m) c.copy.ensures
