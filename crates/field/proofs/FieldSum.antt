-- Laws of the field sum of many elements: terms that agree, that are 0, that are sums or multiples; a sum of one term, and over the numbers that pass a test.
-- Assumes nothing.
use Rattle.std.proofs.Common.{◌≡◌, ℕ, zero, suc, ◌<◌, ◌≤◌, Bool, eqb, ◌≢◌, ◌⊎◌, List, [], ◌∷◌, ◌++◌, length, sym, refl, ap, ◌∙◌, ap₂, inl, inr, ⊎_elim, le_refl, not-suc-le-zero, add-one, arith, lit<, length-append}
use native.Mathlib.Nat.{le_step}
use lib.Bits.{bit_xor, xor_zero_r}
use lib.ListN.{get_or-append}
use lib.Seq.{get_or-append_seam}
use Rattle.lists.specs.Iter.{iter}
use Rattle.lists.specs.Choice.{pick}
use Rattle.lists.specs.Entry.{nth}
use Rattle.lists.specs.Keep.{keep_below}
use Rattle.lists.proofs.Cases.{same_or_not, true_or_false}
use Rattle.lists.proofs.Choice.{pick-true, pick-false, pick_same, pick_other}
use Rattle.lists.proofs.Keep.{keep_below_none, keep_below_yes, keep_below_no}
use Rattle.field.specs.Field.{product}
use Rattle.field.specs.FieldSum.{field_sum}
use Rattle.field.proofs.Sum.{xor_inter, xor32}
use Rattle.field.proofs.Product.{product_xor, product-zero}

pub sum_ext : (n : ℕ) (f g : ℕ → ℕ) → ((j : ℕ) → j < n → f j ≡ g j) → field_sum n f ≡ field_sum n g
unfolding field_sum iter
sum_ext zero f g e = refl
sum_ext (suc n) f g e = ap₂ bit_xor (sum_ext n f g (λ j h. e j (le_step h))) (e n (le_refl (suc n)))

pub sum_zero : (n : ℕ) (f : ℕ → ℕ) → ((j : ℕ) → j < n → f j ≡ 0) → field_sum n f ≡ 0
unfolding field_sum iter
sum_zero zero f e = refl
sum_zero (suc n) f e = ap₂ bit_xor (sum_zero n f (λ j h. e j (le_step h))) (e n (le_refl (suc n)))

pub sum_xor : (n : ℕ) (f g : ℕ → ℕ) → field_sum n (λ j. bit_xor (f j) (g j)) ≡ bit_xor (field_sum n f) (field_sum n g)
unfolding field_sum iter
sum_xor zero f g = refl
sum_xor (suc n) f g = ap (λ (x : ℕ). bit_xor x (bit_xor (f n) (g n))) (sum_xor n f g) ∙ xor_inter (field_sum n f) (field_sum n g) (f n) (g n)

pub sum_product : (n c : ℕ) (f : ℕ → ℕ) → field_sum n (λ j. product c (f j)) ≡ product c (field_sum n f)
unfolding field_sum iter
sum_product zero c f = sym (product-zero c)
sum_product (suc n) c f = ap (λ (x : ℕ). bit_xor x (product c (f n))) (sum_product n c f) ∙ sym (product_xor c (field_sum n f) (f n))

pub sum_lt : (n : ℕ) (f : ℕ → ℕ) → ((j : ℕ) → j < n → f j < 32) → field_sum n f < 32
unfolding field_sum iter
sum_lt zero f e = lit< tt
sum_lt (suc n) f e = xor32 (field_sum n f) (f n) (sum_lt n f (λ j h. e j (le_step h))) (e n (le_refl (suc n)))

-- terms past j that are 0
pub sum_past : (j n : ℕ) (f : ℕ → ℕ) → j ≤ n → ((t : ℕ) → j ≤ t → f t ≡ 0) → field_sum j f ≡ field_sum n f
unfolding field_sum iter
sum_past j zero f h e = let q : j ≡ 0 = omega arith in ap (λ (k : ℕ). field_sum k f) q
sum_past j (suc n) f h e = go (sum_past j n f) (same_or_not j (suc n))
  where
    go : (j ≤ n → ((t : ℕ) → j ≤ t → f t ≡ 0) → field_sum j f ≡ field_sum n f) → (j ≡ suc n) ⊎ (j ≢ suc n) → field_sum j f ≡ field_sum (suc n) f
    go ih (inl q) = ap (λ (k : ℕ). field_sum k f) q
    go ih (inr q) = let l : j ≤ n = omega arith in ih l e ∙ sym (ap (bit_xor (field_sum n f)) (e n l) ∙ xor_zero_r (field_sum n f))

-- a sum whose only term is that at p
pub sum_one : (n p : ℕ) (f : ℕ → ℕ) → p < n → field_sum n (λ j. pick (eqb j p) (f j) 0) ≡ f p
unfolding field_sum iter
sum_one zero p f h = absurd (not-suc-le-zero h)
sum_one (suc n) p f h = go (sum_one n p f) (same_or_not n p)
  where
    term : ℕ → ℕ
    term j = pick (eqb j p) (f j) 0

    go : (p < n → field_sum n term ≡ f p) → (n ≡ p) ⊎ (n ≢ p) → bit_xor (field_sum n term) (term n) ≡ f p
    go ih (inl e) = ap₂ bit_xor (sum_zero n term (λ j l. pick_other j p (f j) 0 (omega arith))) (pick_same n p (f n) 0 e) ∙ ap f e
    go ih (inr k) = ap₂ bit_xor (ih (omega arith)) (pick_other n p (f n) 0 k) ∙ xor_zero_r (f p)

-- over a list's entries, and one more
module _ (f : ℕ → ℕ) where
  abbrev over : List ℕ → ℕ
  over l = field_sum (length l) (λ t. f (nth l t))

  over_more : (l : List ℕ) (x : ℕ) → over (l ++ x ∷ []) ≡ bit_xor (over l) (f x)
  unfolding field_sum iter
  over_more l x =
      ap (λ (k : ℕ). field_sum k (λ t. f (nth (l ++ x ∷ []) t))) (length-append l (x ∷ []) ∙ add-one (length l))
      ∙ ap₂ bit_xor
      (sum_ext (length l) (λ t. f (nth (l ++ x ∷ []) t)) (λ t. f (nth l t)) (λ t h. ap f (get_or-append l (x ∷ []) 0 t h)))
      (ap f (get_or-append_seam l x [] 0))

  -- over the numbers below n that pass a test
  pub sum_keep : (test : ℕ → Bool) (n : ℕ) → field_sum (length (keep_below test n)) (λ t. f (nth (keep_below test n) t)) ≡ field_sum n (λ j. pick (test j) (f j) 0)
  unfolding field_sum iter
  sum_keep test zero = ap over (keep_below_none test)
  sum_keep test (suc n) =
      let i = sum_keep test n in
      ⊎_elim
      (λ y. ap over (keep_below_yes test n y) ∙ over_more (keep_below test n) n ∙ ap₂ bit_xor i (sym (pick-true (test n) (f n) 0 y)))
      (λ y. ap over (keep_below_no test n y) ∙ sym (xor_zero_r (over (keep_below test n))) ∙ ap₂ bit_xor i (sym (pick-false (test n) (f n) 0 y)))
      (true_or_false (test n))
