-- `layouts::variable::push_range` meets its contract. The invariant: the range's bits below b stand at the end.
use Prim.Native.Nat.{ℕ, ◌+◌, ◌-◌, ◌≤◌}
use mathlib.Core.Path.{◌≡◌, sym, ap, ◌∙◌}
use mathlib.Core.List.{List, [], ◌∷◌, ◌++◌, append_assoc, append-nil}
use native.Mathlib.Omega.{arith}
use lib.ListN.{length, length-append}
use Rattle.lists.specs.Values.{values}
use Rattle.lists.proofs.Values.{values-length, values_more}
use Rattle.layouts.proofs.variable.push_range.Goals as goal

none : (l : List ℕ) (from : ℕ) → l ≡ l ++ values (from - from) (λ k. from + k)
unfolding values
none l from = let e : from - from ≡ 0 = omega arith in sym (ap (λ (n : ℕ). l ++ values n (λ k. from + k)) e ∙ append-nil l)

more : (x l : List ℕ) (from b : ℕ) → from ≤ b → x ≡ l ++ values (b - from) (λ k. from + k) → x ++ b ∷ [] ≡ l ++ values (b + 1 - from) (λ k. from + k)
more x l from b h e =
    let n : b + 1 - from ≡ b - from + 1 = omega arith in
    let last : from + (b - from) ≡ b = omega arith in
    ap (λ (y : List ℕ). y ++ b ∷ []) e
    ∙ append_assoc l (values (b - from) (λ k. from + k)) (b ∷ [])
    ∙ ap (λ (y : ℕ). l ++ (values (b - from) (λ k. from + k) ++ y ∷ [])) (sym last)
    ∙ ap (λ (y : List ℕ). l ++ y) (sym (values_more (λ k. from + k) (b - from)))
    ∙ ap (λ (m : ℕ). l ++ values m (λ k. from + k)) (sym n)

count : (x l : List ℕ) (n : ℕ) (f : ℕ → ℕ) → x ≡ l ++ values n f → length x ≡ length l + n
count x l n f e = ap length e ∙ length-append l (values n f) ∙ ap (λ (k : ℕ). length l + k) (values-length f n)

pub loop-b-init : goal.loop-b-init
loop-b-init c = record { above = omega arith; below = omega arith; listed = none _ _ }

pub push-requires : goal.push-requires
push-requires c = (omega arith, omega (arith, count _ _ _ _ c.loop-b.invariant.listed))

pub loop-b-preserved : goal.loop-b-preserved
loop-b-preserved c = record { above = omega arith; below = omega arith; listed = c.push.ensures.items ∙ more _ _ _ _ c.loop-b.invariant.above c.loop-b.invariant.listed }
