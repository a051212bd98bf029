-- `words::positions::count` meets its contract: elimination leaves as many positions.
use mathlib.Core.Path.{sym}
use native.Mathlib.Omega.{arith}
use Rattle.lent.proofs.SoundCode.{sound_columns}
use Rattle.words.proofs.LentWords.{positions-length}
use Rattle.words.proofs.positions.count.Goals as goal

pub overflow_sub-result : goal.overflow_sub-result
overflow_sub-result c = omega (arith, sound_columns _ _ (rw (← c.lent.view_is) at c.code.invariant).sound)

pub returns : goal.returns
returns c = rw (← c.code.view_is, ← c.lent.view_is) (sym (positions-length _ _ (rw (← c.lent.view_is) at c.code.invariant).sound))
