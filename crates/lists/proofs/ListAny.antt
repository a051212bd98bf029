-- The library's search through a list is the search from 0 on over its entries; and the entries of a list's front.
-- Assumes nothing.
use Prim.Native.Nat.{ℕ, zero, suc, ◌≤◌}
use mathlib.Core.Path.{◌≡◌, refl, sym, ap, ◌∙◌}
use mathlib.Core.Bool.{Bool, true, false, ◌||◌}
use mathlib.Core.List.{List, [], ◌∷◌}
use lib.Dec.{eqb}
use lib.ListN.{length, take}
use lib.Seq.{length-take-le, get_or-take}
use Rattle.std.specs.List.{list_any}
use Rattle.lists.specs.AnyBelow.{any_below}
use Rattle.lists.specs.Among.{among}
use Rattle.lists.specs.Entry.{nth}
use Rattle.lists.proofs.AnyBelow.{any_below_ext}

or_swap : (a b c : Bool) → (a || (b || c)) ≡ (b || (a || c))
or_swap true true c = refl
or_swap true false c = refl
or_swap false b c = refl

pub any_below_first : (n : ℕ) (test : ℕ → Bool) → any_below (suc n) test ≡ (test 0 || any_below n (λ k. test (suc k)))
unfolding any_below
any_below_first zero test = refl
any_below_first (suc n) test =
    ap (λ b. test (suc n) || b) (any_below_first n test) ∙ or_swap (test (suc n)) (test 0) (any_below n (λ k. test (suc k)))

pub list_any_below : (test : ℕ → Bool) (l : List ℕ) → list_any test l ≡ any_below (length l) (λ k. test (nth l k))
unfolding any_below
list_any_below test [] = refl
list_any_below test (x ∷ l) =
    ap (λ b. test x || b) (list_any_below test l) ∙ sym (any_below_first (length l) (λ k. test (nth (x ∷ l) k)))

pub list_any_among : (l : List ℕ) (j : ℕ) → list_any (λ p. eqb p j) l ≡ among (length l) (nth l) j
unfolding among
list_any_among l j = list_any_below (λ p. eqb p j) l

-- those in front of a list
pub among_front : (l : List ℕ) (r j : ℕ) → r ≤ length l → among (length (take r l)) (nth (take r l)) j ≡ among r (nth l) j
unfolding among
among_front l r j h =
    ap (λ n. any_below n (λ t. eqb (nth (take r l) t) j)) (length-take-le r l h)
    ∙ any_below_ext r (λ t. eqb (nth (take r l) t) j) (λ t. eqb (nth l t) j) (λ t b. ap (λ x. eqb x j) (get_or-take r l t 0 b))
