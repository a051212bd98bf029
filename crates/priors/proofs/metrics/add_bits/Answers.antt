-- `priors::metrics::add_bits` meets its contract. The invariant: the first k bits are added.
use mathlib.Core.Path.{◌∙◌}
use native.Mathlib.Omega.{arith}
use Rattle.lists.specs.Entry.{nth}
use Rattle.priors.proofs.WithBits.{bits_start, bits_on, bits_end}
use Rattle.priors.proofs.metrics.add_bits.Goals as goal

pub loop-k-init : goal.loop-k-init
loop-k-init c = bits_start _ _ c.args.p (omega arith)

pub loop-k-preserved : goal.loop-k-preserved
loop-k-preserved c = c.add_bit-next.ensures ∙ bits_on _ (nth c.args.bits.now) c.args.p c.loop-k.k _ c.loop-k.invariant

pub returns : goal.returns
returns c = bits_end _ (nth c.args.bits.now) c.args.p c.loop-k.k _ (omega arith) c.loop-k.invariant
