-- Laws of a list over the front of a part: as a loop that puts one entry after another, and what stands there.
-- Assumes nothing.
use Prim.Native.Nat.{ℕ, suc, ◌+◌, ◌-◌, ◌<◌, ◌≤◌}
use mathlib.Core.Path.{◌≡◌, refl, ap, ap₂, sym, ◌∙◌}
use mathlib.Core.List.{List, [], ◌∷◌, ◌++◌, append_assoc, append-nil}
use native.Mathlib.Nat.{add-zero, zero-add}
use native.Mathlib.Numerals.{add-one}
use native.Mathlib.Omega.{arith}
use lib.ListN.{length, get_or, set, take, drop, length-append, length-take, length-drop, get_or-append, take-append-drop}
use lib.Seq.{drop-cons, drop-length, drop-set-lt, set_at, take_at, drop-append-add, drop-drop, length-take-le, get_or-take, get_or-drop, get_or-append-add}
use Rattle.lists.specs.Laid.{laid, laid_from}
use Rattle.lists.specs.Values.{values}
use Rattle.lists.proofs.Values.{values-length, values_at, values_more}

module _ {ℓ} {A : Type ℓ} where
  pub laid_start : (p : List A) → p ≡ laid [] p
  unfolding laid
  laid_start p = refl

  -- x at place w of a part of which w places are used
  pub laid_on : (l p q : List A) (w : ℕ) (x : A) → w ≡ length l → w < length p → q ≡ laid l p → set q w x ≡ laid (l ++ x ∷ []) p
  unfolding laid
  laid_on l p q w x n h e =
      let k : length l < length p = omega arith in
      let m : length (l ++ x ∷ []) ≡ suc (length l) = length-append l (x ∷ []) ∙ add-one (length l) in
      rw (e, m, drop-cons p (length l) x k, set_at l (get_or p (length l) x) (drop (suc (length l)) p) x w (sym n), append_assoc)

  pub laid-length : (l p : List A) → length l ≤ length p → length (laid l p) ≡ length p
  unfolding laid
  laid-length l p h = simp (length-append, length-drop) (omega arith)

  pub laid_at : (l p : List A) (k : ℕ) (d : A) → k < length l → get_or (laid l p) k d ≡ get_or l k d
  unfolding laid
  laid_at l p k d h = get_or-append l (drop (length l) p) d k h

  pub laid-take : (l p : List A) (k : ℕ) → k ≡ length l → take k (laid l p) ≡ l
  unfolding laid
  laid-take l p k e = take_at l (drop (length l) p) k (sym e)

  -- a list that is as long as the part
  pub laid_all : (l p : List A) → length l ≡ length p → laid l p ≡ l
  unfolding laid
  laid_all l p e = rw (e, drop-length, append-nil)

  -- an entry under the list does not matter
  pub laid-set : (l p : List A) (i : ℕ) (x : A) → i < length l → laid l (set p i x) ≡ laid l p
  unfolding laid
  laid-set l p i x h = ap (λ (q : List A). l ++ q) (drop-set-lt (length l) p i x h)

  -- ---- a part that a loop fills with f 0, f 1, .. from the front

  pub fill_start : (f : ℕ → A) (p : List A) → p ≡ laid (values 0 f) p
  unfolding laid values
  fill_start f p = refl

  pub fill_on : (f : ℕ → A) (k : ℕ) (p q : List A) → k < length p → q ≡ laid (values k f) p → set q k (f k) ≡ laid (values (k + 1) f) p
  fill_on f k p q h e = laid_on (values k f) p q k (f k) (sym (values-length f k)) h e ∙ ap (λ (l : List A). laid l p) (sym (values_more f k))

  pub fill_end : (f : ℕ → A) (n k : ℕ) (p q : List A) → k ≡ n → q ≡ laid (values k f) p → q ≡ laid (values n f) p
  fill_end f n k p q e h = h ∙ ap (λ (w : ℕ). laid (values w f) p) e

  -- the whole part
  pub fill_all : (f : ℕ → A) (n : ℕ) (p : List A) → n ≡ length p → laid (values n f) p ≡ values n f
  fill_all f n p e = laid_all (values n f) p (values-length f n ∙ e)

  -- the whole part, as a loop over it ends
  pub fill_whole : (f : ℕ → A) (n k : ℕ) (p q : List A) → k ≡ n → length p ≡ n → q ≡ laid (values k f) p → q ≡ values n f
  fill_whole f n k p q e l h = fill_end f n k p q e h ∙ fill_all f n p (sym l)

  -- an entry, and the front
  pub fill_at : (f : ℕ → A) (n : ℕ) (p q : List A) (k : ℕ) (d : A) → k < n → q ≡ laid (values n f) p → get_or q k d ≡ f k
  fill_at f n p q k d h e = ap (λ (l : List A). get_or l k d) e ∙ laid_at (values n f) p k d (omega (arith, values-length f n)) ∙ values_at f n k d h

  pub fill_front : (f : ℕ → A) (n : ℕ) (p q : List A) → q ≡ laid (values n f) p → take n q ≡ values n f
  fill_front f n p q e = ap (take n) e ∙ laid-take (values n f) p n (sym (values-length f n))

  -- a loop that begins at 1, with the first entry written before it
  pub fill_first : (f : ℕ → A) (x : A) (p : List A) → x ≡ f 0 → 0 < length p → set p 0 x ≡ laid (values (0 + 1) f) (set p 0 x)
  fill_first f x p e h =
      ap (set p 0) e ∙ fill_on f 0 p p h (fill_start f p)
      ∙ sym (laid-set (values (0 + 1) f) p 0 x (let l = values-length f (0 + 1) in omega arith))

  -- ---- from place `at` on

  pub from_start : (at : ℕ) (p : List A) → p ≡ laid_from at [] p
  unfolding laid_from
  from_start at p = sym (take-append-drop at p) ∙ ap (λ (w : ℕ). take at p ++ drop w p) (sym (add-zero at))

  pub from_on : (at : ℕ) (l p q : List A) (w : ℕ) (x : A) → w ≡ at + length l → w < length p → q ≡ laid_from at l p → set q w x ≡ laid_from at (l ++ x ∷ []) p
  unfolding laid_from
  from_on at l p q w x n h e =
      let k : at + length l < length p = omega arith in
      let m : at + length (l ++ x ∷ []) ≡ suc (at + length l) = ap (λ (z : ℕ). at + z) (length-append l (x ∷ [])) ∙ (let z : at + (length l + 1) ≡ suc (at + length l) = omega arith in z) in
      let b : length (take at p ++ l) ≡ w = simp (length-append, length-take) (omega arith) in
      ap (λ (r : List A). set r w x) (e ∙ ap (λ (r : List A). take at p ++ (l ++ r)) (drop-cons p (at + length l) x k) ∙ sym (append_assoc (take at p) l (get_or p (at + length l) x ∷ drop (suc (at + length l)) p)))
      ∙ set_at (take at p ++ l) (get_or p (at + length l) x) (drop (suc (at + length l)) p) x w b
      ∙ append_assoc (take at p) l (x ∷ drop (suc (at + length l)) p)
      ∙ ap (λ (r : List A). take at p ++ r) (sym (append_assoc l (x ∷ []) (drop (suc (at + length l)) p)) ∙ ap (λ (z : ℕ). (l ++ x ∷ []) ++ drop z p) (sym m))

  -- from the front on
  pub from_zero : (l p : List A) → laid_from 0 l p ≡ laid l p
  unfolding laid laid_from
  from_zero l p = ap (λ (w : ℕ). l ++ drop w p) (zero-add (length l))

  pub from_length : (at : ℕ) (l p : List A) → at + length l ≤ length p → length (laid_from at l p) ≡ length p
  unfolding laid_from
  from_length at l p h = simp (length-append, length-take, length-drop) (omega arith)

  -- behind a list that is laid
  -- its entries: those before it, its own, and those after it

  pub from_before : (at k : ℕ) (l p : List A) (d : A) → k < at → at ≤ length p → get_or (laid_from at l p) k d ≡ get_or p k d
  unfolding laid_from
  from_before at k l p d h b =
      get_or-append (take at p) (l ++ drop (at + length l) p) d k (omega (arith, length-take-le at p b)) ∙ get_or-take at p k d h

  behind : (at k : ℕ) (l p : List A) (d : A) → at ≤ length p → get_or (laid_from at l p) (at + k) d ≡ get_or (l ++ drop (at + length l) p) k d
  unfolding laid_from
  behind at k l p d b =
      ap (λ (n : ℕ). get_or (laid_from at l p) (n + k) d) (sym (length-take-le at p b)) ∙ get_or-append-add (take at p) (l ++ drop (at + length l) p) k d

  pub from_own : (at k : ℕ) (l p : List A) (d : A) → k < length l → at ≤ length p → get_or (laid_from at l p) (at + k) d ≡ get_or l k d
  from_own at k l p d h b = behind at k l p d b ∙ get_or-append l (drop (at + length l) p) d k h

  pub from_after : (at k : ℕ) (l p : List A) (d : A) → at + length l ≤ k → at ≤ length p → get_or (laid_from at l p) k d ≡ get_or p k d
  from_after at k l p d h b =
      let m = k - (at + length l) in
      let e : at + (length l + m) ≡ k = omega arith in
      let f : at + length l + m ≡ k = omega arith in
      ap (λ (j : ℕ). get_or (laid_from at l p) j d) (sym e) ∙ behind at (length l + m) l p d b
      ∙ get_or-append-add l (drop (at + length l) p) m d ∙ get_or-drop (at + length l) p m d ∙ ap (λ (j : ℕ). get_or p j d) f

  pub from_laid : (at : ℕ) (l s p : List A) → at ≡ length l → laid_from at s (laid l p) ≡ laid (l ++ s) p
  unfolding laid laid_from
  from_laid at l s p e =
      ap₂ (λ (a b : List A). a ++ (s ++ b)) (take_at l (drop (length l) p) at (sym e))
      (ap (λ (z : ℕ). drop (z + length s) (l ++ drop (length l) p)) e ∙ drop-append-add l (drop (length l) p) (length s) ∙ drop-drop (length s) (length l) p)
      ∙ sym (append_assoc l s (drop (length l + length s) p))
      ∙ ap (λ (z : ℕ). (l ++ s) ++ drop z p) (sym (length-append l s))
