-- `calls::copy::copy` meets its contract. The invariant: the first k entries are copied.
use Rattle.std.proofs.Common.{ℕ, List, ap, sym, ◌∙◌, arith, refl, take}
use lib.Seq.{length-take-le, take-length}
use Rattle.lists.specs.Laid.{laid}
use Rattle.lists.proofs.Laid.{laid_on, laid_all}
use Rattle.lists.proofs.Fold.{take_more}
use Rattle.calls.proofs.copy.copy.Goals as goal

pub loop-k-init : goal.loop-k-init
unfolding laid
loop-k-init g c = refl

pub loop-k-preserved : goal.loop-k-preserved
loop-k-preserved g c =
    let l = c.loop-k in
    let from = c.args.from.now in
    let to = c.args.to.now in
    let x = c.index-from-k.result in
    laid_on (take l.k from) to l.to l.k x (sym (length-take-le l.k from (omega arith))) (omega arith) l.invariant
    ∙ ap (λ (q : List g.row.T.Denot). laid q to) (sym (take_more x from l.k x (omega arith) (sym c.index-from-k.is)))

pub returns : goal.returns
returns g c =
    let l = c.loop-k in
    let from = c.args.from.now in
    let to = c.args.to.now in
    l.invariant ∙ ap (λ (w : ℕ). laid (take w from) to) (omega arith)
    ∙ ap (λ (q : List g.row.T.Denot). laid q to) (take-length from) ∙ laid_all from to (sym c.requires)
