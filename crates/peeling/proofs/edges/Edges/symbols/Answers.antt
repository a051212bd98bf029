-- `peeling::edges::Edges::symbols` meets its contract.
use native.Mathlib.Omega.{arith}
use Rattle.lists.specs.Entry.{nth}
use Rattle.peeling.proofs.Peelable.{check_end}
use Rattle.peeling.proofs.EdgeLists.{middle_values, check_room}
use Rattle.peeling.proofs.edges.Edges.symbols.Goals as goal

pub slice_bounds-result-end : goal.slice_bounds-result-end
slice_bounds-result-end c = check_room c.args.self.now c.args.c c.requires

pub returns : goal.returns
returns c =
    let e = c.args.self.now in
    middle_values e.var.now (nth e.row.now c.args.c) _ (omega (arith, check_end e.peelable.checks c.args.c c.requires, check_room e c.args.c c.requires))
