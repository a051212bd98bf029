-- The code of a case as it is lent. Ours.
-- Assumes nothing.
use Rattle.graph.specs.Parts.{lent}
use Rattle.lent.specs.Held.{Held}
use Rattle.replay.specs.declared.code.Code.{Code}

abbrev pub held : Code → Held
held c = record { code = c.numbers; parts = lent c.var.items c.coef.items c.row.items c.start.items c.col.items c.order.items c.parity.items c.info.items c.a.items }
