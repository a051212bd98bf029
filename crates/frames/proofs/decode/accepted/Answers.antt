-- `frames::decode::accepted` meets its contract: a rate's symbols are few.
use native.Mathlib.Omega.{arith}
use Rattle.rates.proofs.Rates.{of_rate}
use Rattle.frames.proofs.decode.accepted.Goals as goal

pub overflow_mul-own : goal.overflow_mul-own
overflow_mul-own c = omega (arith, (of_rate c.args.rate c.in_ok-rate.ensures).buildable.n_small)

pub overflow_mul-own-2 : goal.overflow_mul-own-2
overflow_mul-own-2 c = omega (arith, (of_rate c.args.rate c.in_ok-rate.ensures).buildable.n_small)
