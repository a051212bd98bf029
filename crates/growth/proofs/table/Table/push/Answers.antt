-- `growth::table::Table::push` meets its contract: the rows' laws say what one more entry makes of them.
use Rattle.std.proofs.Common.{arith}
use Rattle.growth.proofs.Rows.{rows-length, rows_push, table_set}
use Rattle.growth.proofs.table.Table.push.Goals as goal

pub bounds-self-r-2 : goal.bounds-self-r-2
bounds-self-r-2 c =
    let t = c.args.self.now.table in
    let n = rows-length c.args.self.now.cells.now c.args.self.now.counts.now c.args.r t c.requires.0 in
    omega (arith, t.wide)

pub invariant_of-self-2 : goal.invariant_of-self-2
invariant_of-self-2 c =
    let t = c.args.self.now.table in
    let n = rows-length c.args.self.now.cells.now c.args.self.now.counts.now c.args.r t c.requires.0 in
    record { table = table_set _ _ _ _ _ _ t c.requires.0 (omega (arith, t.short c.args.r)) }

pub returns-clause-rows : goal.returns-clause-rows
returns-clause-rows c =
    let t = c.args.self.now.table in
    let n = rows-length c.args.self.now.cells.now c.args.self.now.counts.now c.args.r t c.requires.0 in
    rows_push _ _ c.args.r c.args.x t c.requires.0 (omega arith)
