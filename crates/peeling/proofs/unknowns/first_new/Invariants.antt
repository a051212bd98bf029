use mathlib.Core.Path.{◌≡◌}
use lib.ListN.{drop}
use Rattle.peeling.specs.EdgeLists.{first_new}
use Rattle.peeling.proofs.unknowns.first_new.Given as goal

abbrev pub invariant-loop-v : goal.invariant-loop-v
invariant-loop-v l =
    first_new l.known l.symbols ≡ first_new l.known (drop l.v-index l.symbols)
