-- The library's search through a front or a middle of a list is the search from 0 on over the list's own entries.
-- Assumes nothing.
use Prim.Native.Nat.{ℕ, ◌+◌, ◌-◌, ◌<◌, ◌≤◌}
use mathlib.Core.Path.{◌≡◌, refl, sym, ap, ap₂, ◌∙◌}
use mathlib.Core.Bool.{Bool, not, ◌||◌}
use mathlib.Core.List.{List, [], ◌∷◌, ◌++◌}
use native.Mathlib.Omega.{arith}
use lib.Dec.{eqb, leb}
use lib.ListN.{length, get_or, take, drop}
use lib.Seq.{length-take-le, get_or-take, get_or-drop}
use Rattle.std.proofs.Common.{length-drop}
use Rattle.std.specs.List.{list_any}
use Rattle.lists.specs.AnyBelow.{any_below}
use Rattle.lists.specs.EachOnce.{outside, repeated, each_once}
use Rattle.lists.specs.Entry.{nth}
use Rattle.lists.specs.Front.{used_past}
use Rattle.lists.specs.Laid.{laid}
use Rattle.lists.specs.Values.{values}
use Rattle.lists.proofs.AnyBelow.{any_below_ext}
use Rattle.lists.proofs.ListAny.{any_below_first, list_any_below}
use Rattle.lists.proofs.Values.{values-length, values_ext, values_own}

pub list_any_front : (test : ℕ → Bool) (l : List ℕ) (k : ℕ) → k ≤ length l → list_any test (take k l) ≡ any_below k (λ t. test (nth l t))
list_any_front test l k h =
    list_any_below test (take k l)
    ∙ ap (λ n. any_below n (λ t. test (nth (take k l) t))) (length-take-le k l h)
    ∙ any_below_ext k (λ t. test (nth (take k l) t)) (λ t. test (nth l t)) (λ t b. ap test (get_or-take k l t 0 b))

-- the n entries from one place on
pub middle-length : (l : List ℕ) (at n : ℕ) → at + n ≤ length l → length (take n (drop at l)) ≡ n
middle-length l at n h = length-take-le n (drop at l) (omega (arith, length-drop at l))

pub middle_at : (l : List ℕ) (at n j : ℕ) → j < n → nth (take n (drop at l)) j ≡ nth l (at + j)
middle_at l at n j b = get_or-take n (drop at l) j 0 b ∙ get_or-drop at l j 0

pub repeated_ext : (n : ℕ) (f g : ℕ → ℕ) → ((j : ℕ) → j < n → f j ≡ g j) → repeated n f ≡ repeated n g
unfolding repeated
repeated_ext n f g e =
    any_below_ext n (λ t. any_below t (λ v. eqb (f t) (f v))) (λ t. any_below t (λ v. eqb (g t) (g v)))
    (λ t h. any_below_ext t (λ v. eqb (f t) (f v)) (λ v. eqb (g t) (g v)) (λ v l. ap₂ eqb (e t h) (e v (omega arith))))

pub repeated_middle : (l : List ℕ) (at n : ℕ) → at + n ≤ length l → repeated (length (take n (drop at l))) (nth (take n (drop at l))) ≡ repeated n (λ j. nth l (at + j))
repeated_middle l at n h =
    ap (λ k. repeated k (nth (take n (drop at l)))) (middle-length l at n h)
    ∙ repeated_ext n (nth (take n (drop at l))) (λ j. nth l (at + j)) (middle_at l at n)

pub each_once_front : (l : List ℕ) (k : ℕ) → k ≤ length l → each_once (length (take k l)) (nth (take k l)) ≡ each_once k (nth l)
unfolding each_once outside
each_once_front l k h =
    ap (λ n. not (any_below n (λ t. leb n (nth (take k l) t)) || repeated n (nth (take k l)))) (length-take-le k l h)
    ∙ ap₂ (λ a b. not (a || b))
    (any_below_ext k (λ t. leb k (nth (take k l) t)) (λ t. leb k (nth l t)) (λ t b. ap (leb k) (get_or-take k l t 0 b)))
    (repeated_ext k (nth (take k l)) (nth l) (λ t b. get_or-take k l t 0 b))

pub used_past_rest : (k : ℕ) (part : List ℕ) → list_any (λ x. not (eqb x 0)) (drop k part) ≡ used_past k part
unfolding used_past
used_past_rest k part =
    list_any_below (λ x. not (eqb x 0)) (drop k part)
    ∙ ap (λ n. any_below n (λ t. not (eqb (nth (drop k part) t) 0))) (length-drop k part)
    ∙ any_below_ext (length part - k) (λ t. not (eqb (nth (drop k part) t) 0)) (λ t. not (eqb (nth part (k + t)) 0))
    (λ t b. ap (λ x. not (eqb x 0)) (get_or-drop k part t 0))

-- of a list of anything
pub list_any_entries : {A : Type 0} (d : A) (test : A → Bool) (l : List A) → list_any test l ≡ any_below (length l) (λ k. test (get_or l k d))
unfolding any_below
list_any_entries d test [] = refl
list_any_entries d test (x ∷ l) =
    ap (λ b. test x || b) (list_any_entries d test l) ∙ sym (any_below_first (length l) (λ k. test (get_or (x ∷ l) k d)))

-- what is made of the front's entries
pub values_of_front : {A : Type 0} (d : A) (f : ℕ → A) (l : List ℕ) (r : ℕ) → r ≤ length l → values (length (take r l)) (λ t. f (nth (take r l) t)) ≡ values r (λ t. f (nth l t))
values_of_front d f l r h =
    ap (λ n. values n (λ t. f (nth (take r l) t))) (length-take-le r l h)
    ∙ values_ext r (λ t. f (nth (take r l) t)) (λ t. f (nth l t)) d (λ t b. ap f (get_or-take r l t 0 b))

-- the front itself, over the front of a part
pub front_laid : (l p : List ℕ) (k : ℕ) → k ≤ length l → take k l ++ drop k p ≡ laid (values k (nth l)) p
unfolding laid
front_laid l p k h =
    let e : values k (nth l) ≡ take k l =
    ap (λ n. values n (nth l)) (sym (length-take-le k l h))
    ∙ values_ext (length (take k l)) (nth l) (nth (take k l)) 0 (λ t b. sym (get_or-take k l t 0 (omega (arith, b, length-take-le k l h))))
    ∙ values_own 0 (take k l) in
    let n : length (values k (nth l)) ≡ k = values-length (nth l) k in
    ap₂ (λ (a : List ℕ) (m : ℕ). a ++ drop m p) (sym e) (sym n)
