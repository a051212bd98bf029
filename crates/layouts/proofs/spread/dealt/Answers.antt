-- `layouts::spread::dealt` meets its contract.
use native.Mathlib.Omega.{arith}
use Rattle.layouts.proofs.DealtOnce.{dealt_is}
use Rattle.layouts.proofs.spread.dealt.Goals as goal

pub returns : goal.returns
returns c = omega (arith, dealt_is c.args.slots.now)
