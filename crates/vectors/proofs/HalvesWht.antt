-- The code's level of the transform, taken five times, is the transform: to the bit, in every entry.
-- Assumes nothing.
use Prim.Native.Nat.{ℕ}
use mathlib.Core.Path.{◌≡◌, refl, sym, ap, ◌∙◌}
use lib.Ieee.{Float, nan}
use lib.ListN.{length}
use Rattle.lists.specs.Iter.{iter}
use Rattle.lists.specs.Values.{values}
use Rattle.lists.proofs.Values.{values_own}
use Rattle.vectors.specs.Halves.{halves}
use Rattle.vectors.specs.Vector.{Vector, at}
use Rattle.vectors.specs.Wht.{butterflies, wht}

abbrev five : Vector → Vector
five a = halves (halves (halves (halves (halves a))))

-- by computing both, over the 32 entries as they stand
of_values : (f : ℕ → Float) → five (values 32 f) ≡ wht (values 32 f)
unfolding iter values halves butterflies wht
of_values f = refl

pub halves-wht : (a : Vector) → length a ≡ 32 → halves (halves (halves (halves (halves a)))) ≡ wht a
halves-wht a e =
    let own : values 32 (at a) ≡ a = ap (λ (n : ℕ). values n (at a)) (sym e) ∙ values_own nan a in
    ap five (sym own) ∙ of_values (at a) ∙ ap wht own
