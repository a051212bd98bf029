-- `growth::table::Table::row` meets its contract.
use Rattle.std.proofs.Common.{◌≡◌, ◌+◌, ◌-◌, ◌*◌, arith}
use Rattle.lists.specs.Entry.{nth}
use Rattle.growth.specs.Rows.{rows}
use Rattle.growth.proofs.table.Table.row.Goals as goal

pub returns : goal.returns
unfolding rows
returns c =
    let from = c.args.r * 256 in
    let k = nth c.args.self.now.counts.now c.args.r in
    let e : from + k - from ≡ k = omega arith in
    rw e
