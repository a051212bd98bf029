-- `words::checks::degree` meets its contract: a list by variable is as long as the variable has edges.
use Rattle.lent.proofs.Formed.{list_length}
use Rattle.words.specs.Degree.{degree_in}
use Rattle.words.proofs.checks.degree.Goals as goal

pub returns : goal.returns
unfolding degree_in
returns c = let w = (rw (← c.lent.view_is) at c.code.invariant).sound in rw (← c.code.view_is, ← c.lent.view_is) (list_length _ _ w.fits w.formed c.args.v (rw (← c.code.view_is, ← c.lent.view_is) at c.requires))
