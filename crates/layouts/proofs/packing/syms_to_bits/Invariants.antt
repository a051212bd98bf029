use Prim.Native.Nat.{◌/◌, ◌%◌}
use mathlib.Core.Path.{◌≡◌}
use Rattle.lists.specs.Entry.{nth}
use Rattle.lists.specs.Laid.{laid}
use Rattle.lists.specs.Values.{values}
use Rattle.layouts.specs.Packing.{bit_at}
use Rattle.layouts.proofs.packing.syms_to_bits.Given as goal

abbrev pub invariant-loop-p : goal.invariant-loop-p
invariant-loop-p l = l.out ≡ laid (values l.p (λ p. bit_at (nth l.syms (p / 5)) (p % 5))) l.initial.out
