-- `peeling::edges::Edges::places` meets its contract.
use native.Mathlib.Omega.{arith}
use Rattle.lists.specs.Entry.{nth}
use Rattle.peeling.proofs.EdgeLists.{middle_values}
use Rattle.peeling.proofs.edges.Edges.places.Goals as goal

pub returns : goal.returns
returns c =
    let e = c.args.self.now in
    let v = c.args.v in
    middle_values e.col.now (nth e.start.now v) _ (omega (arith, e.peelable.lists_rise v c.requires, e.peelable.lists_end v c.requires, e.peelable.col_long))
