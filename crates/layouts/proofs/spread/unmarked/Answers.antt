-- `layouts::spread::unmarked` meets its contract. The invariant: those below x are found.
use mathlib.Core.Path.{◌≡◌, ap, ◌∙◌}
use mathlib.Core.Bool.{false, not}
use native.Mathlib.Omega.{arith}
use lib.ListN.{get_or}
use Rattle.lists.specs.Keep.{keep_below}
use Rattle.layouts.proofs.spread.unmarked.Goals as goal

pub returns : goal.returns
returns c =
    let e : c.loop-x.x ≡ 260 = omega arith in
    c.loop-x.invariant.kept ∙ ap (keep_below (λ x. not (get_or c.args.marks.now x false))) e
