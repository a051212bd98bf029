-- `peeling::unknowns::following` meets its contract.
use mathlib.Core.Path.{ap}
use mathlib.Core.List.{List}
use Prim.Native.Nat.{ℕ}
use native.Mathlib.Omega.{arith}
use lib.ListN.{length}
use Rattle.lists.specs.Entry.{nth}
use Rattle.peeling.proofs.EdgeLists.{symbols_low}
use Rattle.peeling.proofs.OneUnknown.{one_some}
use Rattle.peeling.proofs.unknowns.following.Goals as goal

pub first_new-requires : goal.first_new-requires
first_new-requires c =
    λ j h. let q = c.symbols.ensures in
    omega (
      arith,
      ap (λ (l : List ℕ). nth l j) q,
      symbols_low c.args.edges.now c.in_ok-c.c j (omega (arith, one_some c.args.unknown.now c.in_ok-c.c c.in_ok-c.ensures, c.requires.0)) (omega (arith, h, ap length q)),
      c.requires.1,
    )
