-- `frames::encode_bits_at` meets its contract: what its tests leave is a rate.
use Rattle.rates.proofs.Rates.{of_rate}
use Rattle.frames.proofs.encode_bits_at.Goals as goal

pub encode-requires-clause-is_rate : goal.encode-requires-clause-is_rate
encode-requires-clause-is_rate c = of_rate c.args.rate c.in_ok-rate.ensures
