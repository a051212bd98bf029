-- The library's search for a place, in the words of the definition's search from 0 on.
-- Assumes nothing.
use Prim.Native.Nat.{ℕ, zero, suc, ◌+◌, ◌<◌, ◌≤◌}
use mathlib.Core.Path.{◌≡◌, refl, sym, ap, ◌∙◌}
use mathlib.Core.Bool.{Bool, true, false, not, cond}
use mathlib.Core.List.{List, [], ◌∷◌}
use mathlib.Core.Logic.{⊎_elim}
use native.Mathlib.Omega.{arith}
use borrow.Author.Tests.{ltb-true, ltb-false}
use lib.Dec.{eqb}
use lib.ListN.{length, get_or}
use Rattle.std.specs.List.{position, position_or_len}
use Rattle.std.specs.Prelude.{Option, Some, None, find}
use Rattle.std.specs.Option.{unwrap_or}
use Rattle.std.proofs.lemmas.Option.{none-some}
use Rattle.lists.specs.Choice.{pick}
use Rattle.lists.specs.Entry.{nth}
use Rattle.lists.specs.Keep.{keep}
use Rattle.lists.specs.Lowest.{lowest}
use Rattle.lists.proofs.Cases.{true_or_false}
use Rattle.lists.proofs.Keep.{keep_yes, keep_no}
use Rattle.lists.proofs.Lowest.{lowest_is}

push : (b : Bool) (x y : ℕ) → pick b (suc x) (suc y) ≡ suc (pick b x y)
unfolding pick
push true x y = refl
push false x y = refl

shift : (f : ℕ → Bool) (k r : ℕ) → lowest f k (suc r) ≡ suc (lowest (λ i. f (suc i)) k r)
unfolding lowest
shift f zero r = refl
shift f (suc k) r = ap (pick (f (suc r)) (suc r)) (shift f k (suc r)) ∙ push (f (suc r)) r (lowest (λ i. f (suc i)) k (suc r))

turn : (b : Bool) (n k : ℕ) → k ≡ suc n → cond (not b) (1 + n) 0 ≡ pick b 0 k
unfolding pick
turn true n k e = refl
turn false n k e = omega (arith, e)

first_lowest : {A : Type 0} (d : A) (p : A → Bool) (l : List A) → position_or_len p l ≡ lowest (λ i. p (get_or l i d)) (length l) 0
unfolding lowest
first_lowest d p [] = refl
first_lowest d p (x ∷ l) = turn (p x) (position_or_len p l) _ (shift (λ i. p (get_or (x ∷ l) i d)) (length l) 0 ∙ ap suc (sym (first_lowest d p l)))

place : (l : List ℕ) → position_or_len (λ u. eqb u 1) l ≡ lowest (λ c. eqb (nth l c) 1) (length l) 0
place = first_lowest 0 (λ u. eqb u 1)

abbrev given : ℕ → Option ℕ → ℕ
given d None = d
given d (Some x) = x

inv-some : (b : Bool) (a i : ℕ) → cond b (Some a) None ≡ Some i → (b ≡ true) × (i ≡ a)
inv-some true a i e = (refl, sym (ap (given a) e))
inv-some false a i e = absurd (none-some _ e)

inv-none : (b : Bool) (a : ℕ) → cond b (Some a) None ≡ None → b ≡ false
inv-none true a e = absurd (none-some _ (sym e))
inv-none false a e = refl

module _ (l : List ℕ) where
  pub one_some : (c : ℕ) → Some c ≡ position (λ u. eqb u 1) l → (c < length l) × (c ≡ lowest (λ c. eqb (nth l c) 1) (length l) 0)
  one_some c e =
      let r = inv-some _ _ c (sym e) in
      (omega (arith, ltb-true _ _ r.0, r.1), r.1 ∙ place l)

  pub one_none : None ≡ position (λ u. eqb u 1) l → length l ≤ lowest (λ c. eqb (nth l c) 1) (length l) 0
  one_none e =
      let r = inv-none _ (position_or_len (λ u. eqb u 1) l) (sym e) in
      omega (arith, ltb-false _ _ r, place l)

-- the first of a list that passes, and what is kept of it
module _ (test : ℕ → Bool) where
  pub found_some : (l : List ℕ) (v : ℕ) → find test l ≡ Some v → v ≡ nth (keep test l) 0
  found_some [] v e = absurd (none-some v e)
  found_some (x ∷ l) v e =
      ⊎_elim
      (λ t. sym (ap (given 0) (sym (ap (λ (b : Bool). cond b (Some x) (find test l)) t) ∙ e)) ∙ sym (ap (λ (k : List ℕ). nth k 0) (keep_yes test x l t)))
      (λ t. found_some l v (sym (ap (λ (b : Bool). cond b (Some x) (find test l)) t) ∙ e) ∙ sym (ap (λ (k : List ℕ). nth k 0) (keep_no test x l t)))
      (true_or_false (test x))

  pub found_none : (l : List ℕ) → find test l ≡ None → length (keep test l) ≡ 0
  unfolding keep
  found_none [] e = refl
  found_none (x ∷ l) e =
      ⊎_elim
      (λ t. absurd (none-some x (sym e ∙ ap (λ (b : Bool). cond b (Some x) (find test l)) t)))
      (λ t. ap length (keep_no test x l t) ∙ found_none l (sym (ap (λ (b : Bool). cond b (Some x) (find test l)) t) ∙ e))
      (true_or_false (test x))

-- the lowest unknown symbol, and the number of all where there is none
module _ (known : List Bool) where
  either : (b : Bool) (a n : ℕ) → a ≤ n → (b ≡ true → a < n) → (b ≡ false → n ≤ a) → unwrap_or (cond b (Some a) None) n ≡ a
  either true a n l t f = refl
  either false a n l t f = omega (arith, l, f refl)

  pub first_or : unwrap_or (position (λ k. not k) known) (length known) ≡ lowest (λ v. not (get_or known v false)) (length known) 0
  first_or =
      let q = first_lowest false (λ k. not k) known in
      let low = (lowest_is (λ v. not (get_or known v false)) (length known) 0).to in
      either _ (position_or_len (λ k. not k) known) (length known) (omega (arith, q, low)) (λ t. omega (arith, ltb-true _ _ t)) (λ f. omega (arith, ltb-false _ _ f)) ∙ q
