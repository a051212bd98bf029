-- `layouts::maps::taken_by` meets its contract. The invariant: the first r symbols of the order have their slots.
use Prim.Native.Nat.{ℕ, ◌<◌}
use mathlib.Core.Path.{◌≡◌, ap, ◌∙◌}
use mathlib.Core.List.{List}
use native.Mathlib.Omega.{arith}
use lib.ListN.{length, set}
use Rattle.lists.specs.Entry.{nth}
use Rattle.lists.specs.Placed.{placed}
use Rattle.lists.specs.Values.{values}
use Rattle.lists.proofs.Placed.{placed_start, placed_on, placed_end}
use Rattle.lists.proofs.Values.{values_at, values-length}
use Rattle.layouts.specs.Heavy.{symbol_order, taken_by}
use Rattle.layouts.proofs.TakenOnce.{order_once}
use Rattle.layouts.proofs.maps.taken_by.Goals as goal

module _ (l : List ℕ) (e : l ≡ values 52 symbol_order) where
  long : length l ≡ 52
  long = ap length e ∙ values-length symbol_order 52

  -- the symbol of a turn
  at : (r : ℕ) → r < 52 → nth l r ≡ symbol_order r
  at r h = ap (λ (l : List ℕ). nth l r) e ∙ values_at symbol_order 52 r 0 h

  inside : (r : ℕ) → r < 52 → nth l r < 52
  inside r h = omega (arith, at r h, order_once.inside r h)

pub loop-r-init : goal.loop-r-init
loop-r-init c = let e = c.deref-j-items.ensures.0 ∙ c.symbol_order-order.ensures in (omega (arith, long _ e), e, placed_start _ _ _)

pub bounds-slot-j : goal.bounds-slot-j
bounds-slot-j c = inside _ c.loop-r.invariant.1 c.loop-r.r (omega (arith, long _ c.loop-r.invariant.1))

pub loop-r-preserved : goal.loop-r-preserved
loop-r-preserved c =
    let l = c.loop-r in
    let x = nth c.args.slots.now l.r in
    let h : l.r < 52 = omega (arith, long _ l.invariant.1) in
    (omega arith, l.invariant.1, ap (λ (j : ℕ). set l.slot j x) (at _ l.invariant.1 l.r h) ∙ placed_on symbol_order _ _ l.r l.slot l.invariant.2)

pub returns : goal.returns
unfolding taken_by
returns c =
    placed_end _ _ _ 52 _ _ (omega (arith, long _ c.loop-r.invariant.1)) c.loop-r.invariant.2 ∙ ap (placed 52 symbol_order _) c.own_slots-slot.ensures
