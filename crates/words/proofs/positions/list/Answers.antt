-- `words::positions::list` meets its contract: the positions stand in the code.
use Prim.Native.Nat.{ℕ, ◌≤◌}
use mathlib.Core.List.{List, ◌++◌}
use mathlib.Core.Path.{ap, sym, ◌∙◌}
use native.Mathlib.Omega.{arith}
use lib.ListN.{length, drop, length-replicate}
use lib.Seq.{length-take-le}
use Rattle.lists.specs.Entry.{nth}
use Rattle.lists.specs.Values.{values}
use Rattle.lists.proofs.ListSearch.{front_laid}
use Rattle.calls.specs.Parts.{padded}
use Rattle.calls.proofs.Parts.{padded_filled}
use Rattle.words.proofs.LentWords.{positions-length, positions_all}
use Rattle.words.proofs.positions.list.Goals.{After-fill}
use Rattle.words.proofs.positions.list.Goals as goal

-- as many entries as there are positions, of both parts
room : (c : After-fill) → (c.count-k.result ≤ length c.lent.inside.info.now) × (c.count-k.result ≤ length c.fill.new.self)
room c =
    let w = (rw (← c.lent.view_is) at c.code.invariant).sound in
    let k = rw (← c.code.view_is, ← c.lent.view_is) at c.count-k.ensures in
    let e = positions-length _ _ w in
    let r = rw (← c.code.view_is, ← c.lent.view_is) at c.requires in
    (omega (arith, k, e, w.fits.n_small, w.fits.parts.info), omega (arith, k, e, r, ap length (c.fill.ensures.after (λ y e. e)) ∙ length-replicate (length c.args.positions.now) 0))

pub slice_bounds-info-end : goal.slice_bounds-info-end
slice_bounds-info-end c =
    let w = (rw (← c.lent.view_is) at c.code.invariant).sound in
    let k = rw (← c.code.view_is, ← c.lent.view_is) at c.count-k.ensures in
    sym (length-take-le _ _ (omega (arith, k, positions-length _ _ w, w.fits.n_small, w.fits.parts.info)))

pub slice_bounds-copy-end : goal.slice_bounds-copy-end
slice_bounds-copy-end c = (room (goal.at.slice_bounds-copy-end c).After-fill).1

pub slice_bounds-copy-end-2 : goal.slice_bounds-copy-end-2
slice_bounds-copy-end-2 c = sym (length-take-le _ _ (room (goal.at.slice_bounds-copy-end-2 c).After-fill).1)

pub copy-requires : goal.copy-requires
copy-requires c =
    let r = room (goal.at.copy-requires c).After-fill in
    length-take-le _ _ r.1 ∙ sym (length-take-le _ _ r.0)

pub returns-clause-positions_after : goal.returns-clause-positions_after
returns-clause-positions_after c =
    let w = (rw (← c.lent.view_is) at c.code.invariant).sound in
    let k = rw (← c.code.view_is, ← c.lent.view_is) at c.count-k.ensures in
    let r = rw (← c.code.view_is, ← c.lent.view_is) at c.requires in
    let n = c.lent.inside.numbers.n in
    let info = c.lent.inside.info.now in
    let o = room (goal.at.returns-clause-positions_after c).After-fill in
    rw (← c.code.view_is, ← c.lent.view_is)
    (padded_filled n (length c.args.positions.now) 0 _ _ _ r (c.fill.ensures.after (λ y e. e))
    (ap (λ (l : List ℕ). l ++ drop c.count-k.result c.fill.new.self) c.copy.ensures ∙ front_laid info c.fill.new.self c.count-k.result o.0)
    ∙ ap (λ (i : ℕ). padded n 0 (values i (nth info))) (k ∙ positions-length _ _ w)
    ∙ ap (padded n 0) (positions_all _ _ w))
