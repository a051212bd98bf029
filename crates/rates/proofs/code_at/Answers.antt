-- `rates::code_at` meets its contract: what its tests leave is what the build asks.
use Rattle.rates.proofs.Rates.{of_rate}
use Rattle.rates.proofs.code_at.Goals as goal

pub build-code-requires-clause-is_rate : goal.build-code-requires-clause-is_rate
build-code-requires-clause-is_rate c = of_rate c.args.rate c.in_ok-rate.ensures
