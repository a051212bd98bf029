-- A list that the library calls sorted has no entry past the next.
-- Assumes nothing.
use Prim.Native.Nat.{ℕ, ◌+◌, ◌-◌, ◌<◌, ◌≤◌}
use mathlib.Core.Path.{◌≡◌, sym, ap, ap₂, ◌∙◌}
use mathlib.Core.Bool.{Bool, true, false, true≢false, not}
use mathlib.Core.List.{List}
use mathlib.Core.Logic.{⊎_elim}
use native.Mathlib.Omega.{arith}
use borrow.Author.Tests.{eq-eqb, lt-ltb, le-ltb}
use lib.Dec.{eqb, ltb}
use lib.ListN.{length, take}
use lib.Seq.{length-take-le, get_or-take}
use Rattle.std.specs.Prelude.{cond}
use Rattle.std.specs.Ordering.{is_le, nat_cmp}
use Rattle.std.proofs.Common.{Less, Equal, Greater}
use Rattle.std.specs.List.{IsAllAdjacentAnswer}
use Rattle.std.proofs.lemmas.Map.Keys.{le_from_is_le}
use Rattle.lists.specs.AnyBelow.{any_below}
use Rattle.lists.specs.Entry.{nth}
use Rattle.lists.proofs.AnyBelow.{any_below_none, any_below_hit, any_below_ext}
use Rattle.lists.proofs.Cases.{less_or_not}

is_le_yes : (x y : ℕ) → x ≤ y → is_le (nat_cmp x y) ≡ true
is_le_yes x y h =
    ⊎_elim
    (λ l. ap (λ (b : Bool). is_le (cond b Less (cond (eqb x y) Equal Greater))) (lt-ltb x y l))
    (λ g. ap₂ (λ (a b : Bool). is_le (cond a Less (cond b Equal Greater))) (le-ltb x y g) (eq-eqb x y (omega (arith, h, g))))
    (less_or_not x y)

past : (x y : ℕ) → is_le (nat_cmp x y) ≡ false → ltb y x ≡ true
past x y e = ⊎_elim (λ l. lt-ltb y x l) (λ g. absurd (true≢false (sym (is_le_yes x y g) ∙ e))) (less_or_not y x)

pub falls_sorted : (l : List ℕ) (r : Bool) → IsAllAdjacentAnswer (λ (x y : ℕ) (b : Bool). is_le (nat_cmp x y) ≡ b) l r
    → not r ≡ any_below (length l - 1) (λ i. ltb (nth l (i + 1)) (nth l i))
falls_sorted l true h =
    sym (any_below_none (length l - 1) (λ i. ltb (nth l (i + 1)) (nth l i)) (λ i b. le-ltb (nth l (i + 1)) (nth l i) (le_from_is_le (nth l i) (nth l (i + 1)) (h i 0 (omega arith)))))
falls_sorted l false h =
    any_below_hit (length l - 1) h.0 (λ i. ltb (nth l (i + 1)) (nth l i)) (omega (arith, h.1)) (past (nth l h.0) (nth l (h.0 + 1)) (h.2 0))

-- of the front of a list
pub falls_front : (l : List ℕ) (k : ℕ) → k < length l
    → any_below (length (take (k + 1) l) - 1) (λ i. ltb (nth (take (k + 1) l) (i + 1)) (nth (take (k + 1) l) i)) ≡ any_below k (λ i. ltb (nth l (i + 1)) (nth l i))
falls_front l k h =
    let front : List ℕ = take (k + 1) l in
    ap (λ (n : ℕ). any_below n (λ i. ltb (nth front (i + 1)) (nth front i))) (omega (arith, length-take-le (k + 1) l (omega arith)))
    ∙ any_below_ext k (λ i. ltb (nth front (i + 1)) (nth front i)) (λ i. ltb (nth l (i + 1)) (nth l i))
    (λ i b. ap₂ ltb (get_or-take (k + 1) l (i + 1) 0 (omega arith)) (get_or-take (k + 1) l i 0 (omega arith)))
