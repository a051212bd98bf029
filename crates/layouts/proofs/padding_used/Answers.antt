-- `layouts::padding_used` meets its contract.
use mathlib.Core.Path.{ap, ◌∙◌}
use mathlib.Core.Bool.{not}
use native.Mathlib.Omega.{arith}
use lib.Dec.{eqb}
use lib.ListN.{drop, length-drop}
use lib.Seq.{take_all}
use Rattle.std.specs.List.{list_any}
use Rattle.layouts.specs.Symbols.{padding_used}
use Rattle.layouts.proofs.padding_used.Goals as goal

pub returns : goal.returns
unfolding padding_used
returns c =
    let rest = drop 256 c.args.padded.now in
    c.is_used.ensures ∙ ap (list_any (λ bit. not (eqb bit 0))) (take_all 4 rest (omega (arith, length-drop 256 c.args.padded.now)))
