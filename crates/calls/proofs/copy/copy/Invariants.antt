use Rattle.std.proofs.Common.{◌≡◌}
use lib.ListN.{take}
use Rattle.lists.specs.Laid.{laid}
use Rattle.calls.proofs.copy.copy.Given as goal

abbrev pub invariant-loop-k : goal.invariant-loop-k
invariant-loop-k g l = l.to ≡ laid (take l.k l.from) l.initial.to
