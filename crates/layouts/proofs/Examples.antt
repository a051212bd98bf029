-- The examples of the promise hold, each by computation.
-- Assumes nothing.
use mathlib.Core.Path.{refl}
use Rattle.lists.specs.Among.{among}
use Rattle.lists.specs.AnyBelow.{any_below}
use Rattle.lists.specs.Chain.{chain}
use Rattle.lists.specs.Choice.{pick}
use Rattle.lists.specs.Iter.{iter}
use Rattle.lists.specs.Values.{values}
use Rattle.layouts.specs.Heavy.{touched}
use Rattle.layouts.specs.Maps.{pos_of, layout_of}
use Rattle.layouts.specs.Promise.{Examples}
use Rattle.layouts.specs.VariableBits.{ranges, variable_bits, variable}

pub examples : Examples
unfolding layout_of pos_of touched variable variable_bits ranges chain iter values pick among any_below
examples = record { spread = λ degrees. (refl, (refl, refl)); heavy = refl }
