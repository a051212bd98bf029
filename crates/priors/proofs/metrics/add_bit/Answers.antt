-- `priors::metrics::add_bit` meets its contract.
use mathlib.Core.Path.{◌∙◌}
use native.Mathlib.Omega.{arith}
use Rattle.priors.proofs.WithBits.{of_padding, of_prior, of_none}
use Rattle.priors.proofs.metrics.add_bit.Goals as goal

pub returns-then-b-ge256 : goal.returns-then-b-ge256
returns-then-b-ge256 c = c.add_to_ones.ensures ∙ of_padding _ c.args.b c.args.k c.args.p c.if-b-ge256.true

pub returns-then-b-prior : goal.returns-then-b-prior
returns-then-b-prior c = c.add_either.ensures ∙ of_prior _ c.args.b c.args.k c.args.p c.if-b-ge256.false c.if-b-prior.true

pub returns : goal.returns
returns c = of_none _ c.args.b c.args.k c.args.p (omega arith) c.if-b-ge256.false c.if-b-prior.false
