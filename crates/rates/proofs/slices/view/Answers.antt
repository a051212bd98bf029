-- `rates::slices::view` meets its contract: each part stands where it was put.
use Rattle.rates.proofs.InSlices.{view_is}
use Rattle.rates.proofs.slices.view.Goals as goal

pub returns : goal.returns
returns c = λ p w e f. view_is c.args.code p c.args.words.now c.args.bytes.now w e f
