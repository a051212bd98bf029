-- `words::positions::own_symbols` meets its contract: the positions stand in the code.
use Prim.Native.Nat.{ℕ}
use mathlib.Core.Path.{ap, sym, ◌∙◌}
use native.Mathlib.Omega.{arith}
use lib.ListN.{length, length-replicate}
use lib.Seq.{length-take-le, get_or-take}
use Rattle.lists.specs.Entry.{nth}
use Rattle.lists.specs.Values.{values}
use Rattle.lists.proofs.ListSearch.{values_of_front}
use Rattle.calls.specs.Parts.{padded}
use Rattle.calls.proofs.Parts.{padded_filled}
use Rattle.words.proofs.Encodings.{info_length}
use Rattle.words.proofs.LentWords.{positions-length, positions_inside, symbols_all}
use Rattle.words.proofs.positions.own_symbols.Goals as goal

pub slice_bounds-gather-end : goal.slice_bounds-gather-end
slice_bounds-gather-end c =
    let w = (rw (← c.lent.view_is) at c.code.invariant).sound in
    let k = rw (← c.code.view_is, ← c.lent.view_is) at c.count-k.ensures in
    sym (length-take-le _ _ (omega (arith, k, positions-length _ _ w, w.fits.n_small, w.fits.parts.info)))

pub gather-requires : goal.gather-requires
gather-requires c =
    let w = (rw (← c.lent.view_is) at c.code.invariant).sound in
    let k = rw (← c.code.view_is, ← c.lent.view_is) at c.count-k.ensures in
    let e = positions-length _ _ w in
    let r = rw (← c.code.view_is, ← c.lent.view_is) at c.requires in
    let l = length-take-le c.count-k.result c.lent.inside.info.now (omega (arith, k, e, w.fits.n_small, w.fits.parts.info)) in (
      omega (arith, l, k, e, r.1, ap length (c.fill.ensures.after (λ y e. e)) ∙ length-replicate (length c.args.syms.now) 0),
      λ t h. omega (arith, r.0, get_or-take c.count-k.result c.lent.inside.info.now t 0 (omega (arith, h, l)), positions_inside _ _ w t (omega (arith, h, l, k, e))),
    )

pub returns-clause-value : goal.returns-clause-value
returns-clause-value c = c.count-k.ensures ∙ sym (info_length _ _ c.args.word.now)

pub returns-clause-syms_after : goal.returns-clause-syms_after
returns-clause-syms_after c =
    let w = (rw (← c.lent.view_is) at c.code.invariant).sound in
    let k = rw (← c.code.view_is, ← c.lent.view_is) at c.count-k.ensures in
    let r = rw (← c.code.view_is, ← c.lent.view_is) at c.requires in
    let n = c.lent.inside.numbers.n in
    let x = c.args.word.now in
    rw (← c.code.view_is, ← c.lent.view_is)
    (padded_filled n (length c.args.syms.now) 0 _ _ _ r.1 (c.fill.ensures.after (λ y e. e)) c.gather.ensures
    ∙ ap (padded n 0) (values_of_front 0 (nth x) c.lent.inside.info.now c.count-k.result (omega (arith, k, positions-length _ _ w, w.fits.n_small, w.fits.parts.info)))
    ∙ ap (λ (i : ℕ). padded n 0 (values i (λ t. nth x (nth c.lent.inside.info.now t)))) (k ∙ positions-length _ _ w)
    ∙ ap (padded n 0) (symbols_all _ _ w x))
