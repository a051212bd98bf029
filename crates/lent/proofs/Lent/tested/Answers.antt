-- `lent::Lent::tested` meets its contract: parts that number 6 passes are formed.
use mathlib.Core.Path.{sym, ◌∙◌}
use Rattle.lent.proofs.Formed.{formed}
use Rattle.lent.proofs.Lent.tested.Goals as goal

pub misencoded-requires-clause-formed : goal.misencoded-requires-clause-formed
misencoded-requires-clause-formed c = formed _ _ (sym c.malformed.ensures ∙ c.if-malformed.false)
