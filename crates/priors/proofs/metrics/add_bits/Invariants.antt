use mathlib.Core.Path.{◌≡◌}
use Rattle.lists.specs.Entry.{nth}
use Rattle.lists.specs.Iter.{iter}
use Rattle.lists.specs.Values.{values}
use Rattle.vectors.specs.Vector.{at}
use Rattle.priors.specs.WithPriors.{is_one, with_bit}
use Rattle.priors.proofs.metrics.add_bits.Given as goal

abbrev pub invariant-loop-k : goal.invariant-loop-k
invariant-loop-k l =
    l.q ≡ values 32 (λ v. iter l.k (λ k m. with_bit l.prior (nth l.bits k) (is_one v k) m) (at l.initial.q v))
