-- `rates::Rate::of` meets its contract: the row of the number, with the seed.
use mathlib.Core.Path.{ap}
use borrow.Author.Tests.{le-ltb}
use Rattle.std.specs.Prelude.{Ok}
use Rattle.field.specs.declared.tables.DegreeRow.{DegreeRow}
use Rattle.rates.specs.declared.Rate.{Rate}
use Rattle.rates.specs.Rate.{seed, rate_of}
use Rattle.rates.proofs.Rate.of.Goals as goal

pub returns : goal.returns
unfolding rate_of
returns c =
    let at : DegreeRow → Rate = λ row. record { n = row.n; heavy = row.heavy; degree = row.degree; seed = seed } in
    rw (le-ltb 3 c.args.rate c.if-rate-gt3.false) (ap (λ (row : DegreeRow). Ok (at row)) c.degree_row-row.ensures)
