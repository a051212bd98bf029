-- Laws of the list of given values: its entries and its length. A part that a loop fills with them is in Laid.antt.
-- Assumes nothing.
use Prim.Native.Nat.{ℕ, zero, suc, ◌+◌, ◌-◌, ◌<◌}
use mathlib.Core.Path.{◌≡◌, refl, ap, sym, ◌∙◌}
use mathlib.Core.List.{List, [], ◌∷◌, ◌++◌, map, append-nil, append_assoc, reverse, reverse-cons}
use native.Mathlib.Nat.{add-zero, zero-add, add-suc, suc-add, le_of_suc-le-suc, not-suc-le-zero}
use native.Mathlib.Numerals.{add-one}
use native.Mathlib.Omega.{arith}
use lib.ListN.{length, get_or, replicate}
use lib.Seq.{ext_get_or}
use Rattle.lists.specs.Values.{values, values_from}

module _ {ℓ} {A : Type ℓ} (f : ℕ → A) where
  from_length : (i n : ℕ) → length (values_from i n f) ≡ n
  from_length i zero = refl
  from_length i (suc n) = ap suc (from_length (suc i) n)

  from_at : (i n k : ℕ) (d : A) → k < n → get_or (values_from i n f) k d ≡ f (i + k)
  from_at i zero k d h = absurd (not-suc-le-zero h)
  from_at i (suc n) zero d h = ap f (sym (add-zero i))
  from_at i (suc n) (suc k) d h = from_at (suc i) n k d (le_of_suc-le-suc h) ∙ ap f (suc-add i k ∙ sym (add-suc i k))

  from_more : (i n : ℕ) → values_from i (suc n) f ≡ values_from i n f ++ f (i + n) ∷ []
  from_more i zero = ap (λ (j : ℕ). f j ∷ []) (sym (add-zero i))
  from_more i (suc n) = ap (λ (l : List A). f i ∷ l) (from_more (suc i) n ∙ ap (λ (j : ℕ). values_from (suc i) n f ++ f j ∷ []) (suc-add i n ∙ sym (add-suc i n)))

  pub values_none : values 0 f ≡ []
  unfolding values
  values_none = refl

  pub values-length : (n : ℕ) → length (values n f) ≡ n
  unfolding values
  values-length n = from_length 0 n

  pub values_at : (n k : ℕ) (d : A) → k < n → get_or (values n f) k d ≡ f k
  unfolding values
  values_at n k d h = from_at 0 n k d h ∙ ap f (zero-add k)

  pub values_more : (n : ℕ) → values (n + 1) f ≡ values n f ++ f n ∷ []
  unfolding values
  values_more n = ap (λ (m : ℕ). values_from 0 m f) (add-one n) ∙ from_more 0 n ∙ ap (λ (j : ℕ). values_from 0 n f ++ f j ∷ []) (zero-add n)

-- two rules that agree below n
pub values_ext {ℓ} : {A : Type ℓ} (n : ℕ) (f g : ℕ → A) (d : A) → ((k : ℕ) → k < n → f k ≡ g k) → values n f ≡ values n g
values_ext n f g d e =
    ext_get_or d (values n f) (values n g) (values-length f n ∙ sym (values-length g n))
    (λ k h. let l : k < n = (omega (arith, values-length f n)) in values_at f n k d l ∙ e k l ∙ sym (values_at g n k d l))

-- one value everywhere, as a cleared part has
from_replicate {ℓ} : {A : Type ℓ} (i n : ℕ) (v : A) → values_from i n (λ _. v) ≡ replicate n v
from_replicate i zero v = refl
from_replicate i (suc n) v = ap (λ l. v ∷ l) (from_replicate (suc i) n v)

pub values-replicate {ℓ} : {A : Type ℓ} (n : ℕ) (v : A) → values n (λ _. v) ≡ replicate n v
unfolding values
values-replicate n v = from_replicate 0 n v

-- the values of a list's own entries
pub values_own {ℓ} : {A : Type ℓ} (d : A) (l : List A) → values (length l) (λ k. get_or l k d) ≡ l
values_own d l =
    ext_get_or d (values (length l) (λ k. get_or l k d)) l (values-length (λ k. get_or l k d) (length l))
    (λ k h. values_at (λ k. get_or l k d) (length l) k d (omega (arith, values-length (λ k. get_or l k d) (length l))))

-- a function of each value
map_from {ℓ ℓ'} : {A : Type ℓ} {B : Type ℓ'} (h : A → B) (i n : ℕ) (f : ℕ → A) → map h (values_from i n f) ≡ values_from i n (λ k. h (f k))
map_from h i zero f = refl
map_from h i (suc n) f = ap (λ l. h (f i) ∷ l) (map_from h (suc i) n f)

pub map-values {ℓ ℓ'} : {A : Type ℓ} {B : Type ℓ'} (h : A → B) (n : ℕ) (f : ℕ → A) → map h (values n f) ≡ values n (λ k. h (f k))
unfolding values
map-values h n f = map_from h 0 n f

pub map_entries {ℓ ℓ'} : {A : Type ℓ} {B : Type ℓ'} (h : A → B) (d : A) (l : List A) → map h l ≡ values (length l) (λ k. h (get_or l k d))
map_entries h d l = ap (map h) (sym (values_own d l)) ∙ map-values h (length l) (λ k. get_or l k d)

-- n values and k more
pub values-add {ℓ} : {A : Type ℓ} (n k : ℕ) (f : ℕ → A) → values (n + k) f ≡ values n f ++ values k (λ j. f (n + j))
unfolding values
values-add n zero f = ap (λ (m : ℕ). values_from 0 m f) (add-zero n) ∙ sym (append-nil (values_from 0 n f))
values-add n (suc k) f =
    ap (λ (m : ℕ). values m f) (add-suc n k ∙ sym (add-one (n + k))) ∙ values_more f (n + k)
    ∙ ap (λ l. l ++ f (n + k) ∷ []) (values-add n k f) ∙ append_assoc (values n f) (values k (λ j. f (n + j))) (f (n + k) ∷ [])
    ∙ ap (λ l. values n f ++ l) (sym (values_more (λ j. f (n + j)) k) ∙ ap (λ (m : ℕ). values m (λ j. f (n + j))) (add-one k))

-- a list reversed
pub reverse-values {ℓ} : {A : Type ℓ} (d : A) (l : List A) → reverse l ≡ values (length l) (λ t. get_or l (length l - (t + 1)) d)
unfolding values
reverse-values d [] = refl
reverse-values {A = A} d (x ∷ l) =
    let n = length l in
    let f : ℕ → A = λ t. get_or (x ∷ l) (suc n - (t + 1)) d in
    reverse-cons x l
    ∙ ap (λ (a : List A). a ++ x ∷ []) (reverse-values d l ∙ values_ext n (λ t. get_or l (n - (t + 1)) d) f d (λ t h. let e : suc n - (t + 1) ≡ suc (n - (t + 1)) = omega arith in ap (λ (k : ℕ). get_or (x ∷ l) k d) (sym e)))
    ∙ ap (λ (y : A). values n f ++ y ∷ []) (let e : suc n - (n + 1) ≡ 0 = omega arith in ap (λ (k : ℕ). get_or (x ∷ l) k d) (sym e))
    ∙ sym (values_more f n)
    ∙ ap (λ (k : ℕ). values k f) (add-one n)
