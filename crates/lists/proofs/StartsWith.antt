-- That a list starts with another, as the library tests it, is that its front does not differ.
-- Assumes nothing.
use Prim.Native.Nat.{ℕ, ◌≤◌}
use mathlib.Core.Path.{◌≡◌, refl, sym, ap, ap₂, ◌∙◌}
use mathlib.Core.Bool.{Bool, true, false, not, ◌&&◌, ◌||◌}
use mathlib.Core.List.{List, [], ◌∷◌}
use mathlib.Core.Logic.{⊎_elim}
use native.Mathlib.Nat.{not-suc-le-zero}
use native.Mathlib.Omega.{arith}
use borrow.Author.Tests.{eq-eqb, ne_eqb}
use lib.Dec.{eqb}
use lib.ListN.{length, take}
use lib.Pointwise.{pointwise}
use Rattle.lists.specs.Entry.{nth}
use Rattle.lists.specs.Front.{differs}
use Rattle.lists.specs.AnyBelow.{any_below}
use Rattle.lists.proofs.Cases.{same_or_not}
use Rattle.lists.proofs.ListAny.{any_below_first}

eqb_swap : (x y : ℕ) → eqb x y ≡ eqb y x
eqb_swap x y = ⊎_elim (λ e. eq-eqb x y e ∙ sym (eq-eqb y x (sym e))) (λ n. ne_eqb x y n ∙ sym (ne_eqb y x (λ e. n (sym e)))) (same_or_not x y)

not_and : (a b : Bool) → not (a && b) ≡ (not a || not b)
not_and true b = refl
not_and false b = refl

pub starts_differ : (l part : List ℕ) → length l ≤ length part → not (pointwise eqb l (take (length l) part)) ≡ differs l part
unfolding differs any_below
starts_differ [] part h = refl
starts_differ (x ∷ l) [] h = absurd (not-suc-le-zero h)
starts_differ (x ∷ l) (y ∷ part) h =
    not_and (eqb x y) (pointwise eqb l (take (length l) part))
    ∙ ap₂ ◌||◌ (ap not (eqb_swap x y)) (starts_differ l part (omega (arith, h)))
    ∙ sym (any_below_first (length l) (λ k. not (eqb (nth (y ∷ part) k) (nth (x ∷ l) k))))
