use Prim.Native.Nat.{ℕ, ◌+◌, ◌*◌}
use mathlib.Core.Path.{◌≡◌}
use mathlib.Core.List.{List}
use lib.Ieee.{Float}
use lib.ListN.{length}
use Rattle.lists.specs.Entry.{nth}
use Rattle.lists.specs.Iter.{iter}
use Rattle.vectors.specs.Vector.{vector, stored}
use Rattle.priors.specs.WithPriors.{with_bits}
use Rattle.priors.proofs.metrics.with_priors.Given as goal

-- the turn of packed symbol j
abbrev pub turn : List ℕ → List ℕ → List ℕ → List Float → ℕ → List Float → List Float
turn info bit slot prior j w =
    stored w (nth info (nth slot j)) (with_bits prior (λ k. nth bit (5 * j + k)) (vector w (nth info (nth slot j))))

abbrev pub invariant-loop-j : goal.invariant-loop-j
invariant-loop-j l =
    (length l.with ≡ length l.initial.with) × (l.with ≡ iter l.j (turn l.info l.bit l.slot l.prior) l.initial.with)
