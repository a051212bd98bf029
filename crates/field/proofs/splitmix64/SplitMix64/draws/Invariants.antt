use Rattle.std.proofs.Common.{◌≡◌, ℕ}
use Rattle.lists.specs.Values.{values}
use Rattle.lists.specs.Laid.{laid}
use Rattle.field.specs.SplitMix64.{draw, after}
use Rattle.field.proofs.splitmix64.SplitMix64.draws.Given as goal

abbrev pub from : ℕ → ℕ → ℕ
from s k = draw (after k s)

abbrev pub invariant-loop-place : goal.invariant-loop-place
invariant-loop-place l = record {
  drawn : l.out ≡ laid (values l.place-index (from l.initial.self.state)) l.initial.out;
  on : l.self.state ≡ after l.place-index l.initial.self.state;
}
