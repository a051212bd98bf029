-- `layouts::spread::deal_bits` meets its contract. The invariant: the first t bits are dealt and marked.
use Prim.Native.Nat.{ℕ, ◌+◌, ◌<◌}
use mathlib.Core.Path.{◌≡◌, sym, ap, ap₂, subst, ◌∙◌}
use mathlib.Core.Bool.{true}
use mathlib.Core.List.{List}
use native.Mathlib.Omega.{arith}
use lib.ListN.{length, set}
use Rattle.lists.specs.Entry.{nth}
use Rattle.lists.proofs.Placed.{placed_start, placed_on}
use Rattle.layouts.specs.SpreadHeavy.{dealt, deal}
use Rattle.layouts.specs.VariableBits.{variable_bits, variable}
use Rattle.lists.specs.Marks.{Marks}
use Rattle.layouts.proofs.VariableIndex.{variable_inside, bits_count}
use Rattle.layouts.proofs.DealtOnce.{dealt_bits, deal_inside}
use Rattle.lists.proofs.Marks.{marks_start, marks_on}
use Rattle.layouts.proofs.spread.deal_bits.Goals.{In-loop-t}
use Rattle.layouts.proofs.spread.deal_bits.Goals as goal

-- a turn, its bit and its place
module _ (c : In-loop-t) where
  abbrev slots : List ℕ
  slots = c.args.slots.now

  at : c.loop-t.t < dealt slots
  at = omega (arith, c.loop-t.invariant.1, c.loop-t-test.true)

  bit-inside : variable c.loop-t.t < 256
  bit-inside = variable_inside c.loop-t.t (omega (arith, at, dealt_bits slots))

  place-fits : deal slots c.loop-t.t < 260
  place-fits = deal_inside slots c.requires.0 c.loop-t.t at

pub loop-t-init : goal.loop-t-init
loop-t-init c = (omega arith, c.dealt-t-end.ensures, placed_start _ _ _, marks_start 260 variable, marks_start 260 (deal _))

-- the bit that is read
bit : (l : List ℕ) (t : ℕ) → l ≡ variable_bits → nth l t ≡ variable t
unfolding variable
bit l t e = ap (λ (l : List ℕ). nth l t) e

pub bounds-deref-t : goal.bounds-deref-t
bounds-deref-t c = omega (arith, ap length (c.deref.ensures.0 ∙ c.variable_bits-bits.ensures), bits_count, at (goal.at.bounds-deref-t c).In-loop-t, dealt_bits (slots (goal.at.bounds-deref-t c).In-loop-t))

pub offset_bounds-deref-t : goal.offset_bounds-deref-t
offset_bounds-deref-t c = omega (arith, ap length (c.deref.ensures.0 ∙ c.variable_bits-bits.ensures), bits_count, at (goal.at.offset_bounds-deref-t c).In-loop-t, dealt_bits (slots (goal.at.offset_bounds-deref-t c).In-loop-t))

pub overflow_cast-pos : goal.overflow_cast-pos
overflow_cast-pos c = omega (arith, c.deal-p.ensures, place-fits (goal.at.overflow_cast-pos c).In-loop-t)

pub bounds-pos-b : goal.bounds-pos-b
bounds-pos-b c = omega (arith, bit _ c.loop-t.t (c.deref.ensures.0 ∙ c.variable_bits-bits.ensures), bit-inside (goal.at.bounds-pos-b c).In-loop-t)

pub bounds-used-b : goal.bounds-used-b
bounds-used-b c = omega (arith, bit _ c.loop-t.t (c.deref.ensures.0 ∙ c.variable_bits-bits.ensures), bit-inside (goal.at.bounds-used-b c).In-loop-t)

pub bounds-taken-p : goal.bounds-taken-p
bounds-taken-p c = omega (arith, c.deal-p.ensures, place-fits (goal.at.bounds-taken-p c).In-loop-t)

pub loop-t-preserved : goal.loop-t-preserved
loop-t-preserved c =
    let l = c.loop-t in
    let b = bit _ c.loop-t.t (c.deref.ensures.0 ∙ c.variable_bits-bits.ensures) in
    let p = c.deal-p.ensures in (
      omega arith,
      l.invariant.1,
      ap₂ (λ (x y : ℕ). set l.pos x y) b p ∙ placed_on variable (deal (slots (goal.at.loop-t-preserved c).In-loop-t)) _ l.t l.pos l.invariant.2,
      subst (λ (x : ℕ). Marks 260 variable (l.t + 1) (set l.used x true)) (sym b) (marks_on 260 variable l.t l.used (omega (arith, bit-inside (goal.at.loop-t-preserved c).In-loop-t)) l.invariant.3),
      subst (λ (x : ℕ). Marks 260 (deal (slots (goal.at.loop-t-preserved c).In-loop-t)) (l.t + 1) (set l.taken x true)) (sym p) (marks_on 260 (deal (slots (goal.at.loop-t-preserved c).In-loop-t)) l.t l.taken (place-fits (goal.at.loop-t-preserved c).In-loop-t) l.invariant.4),
    )
