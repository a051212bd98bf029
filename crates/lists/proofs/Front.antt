-- Laws of a list beside the front of a part: as a loop compares them, entry after entry or list after list, and what it says where they do not differ.
-- Assumes nothing.
use Prim.Native.Nat.{ℕ, ◌+◌, ◌-◌, ◌<◌, ◌≤◌}
use mathlib.Core.Path.{◌≡◌, sym, ap, ◌∙◌}
use mathlib.Core.Logic.{◌≢◌, ⊎_elim}
use mathlib.Core.Bool.{Bool, true, false, not}
use mathlib.Core.List.{List, [], ◌∷◌, ◌++◌}
use native.Mathlib.Nat.{add-zero}
use native.Mathlib.Numerals.{add-one}
use native.Mathlib.Omega.{arith}
use borrow.Author.Tests.{eq-eqb, ne_eqb, eqb-true, eqb-false, not-true, not-false}
use lib.Dec.{eqb}
use lib.ListN.{length, take, drop, length-append, length-take, take-append-drop, get_or-append}
use lib.Seq.{get_or-append-add, get_or-take, ext_get_or}
use Rattle.lists.specs.AnyBelow.{any_below}
use Rattle.lists.specs.Chain.{chain, start_of}
use Rattle.lists.specs.Entry.{nth}
use Rattle.lists.specs.Front.{differs}
use Rattle.lists.specs.Keep.{keep_below}
use Rattle.lists.specs.Laid.{laid}
use Rattle.lists.specs.Values.{values}
use Rattle.lists.proofs.AnyBelow.{any_below_start, any_below_hit, any_below_not, any_below_none, any_below_some, any_below_ext}
use Rattle.lists.proofs.Cases.{less_or_not}
use Rattle.lists.proofs.Chain.{chain_none, chain_more, chain_at, start_is, start_of-le}
use Rattle.lists.proofs.Keep.{keep_below_none, keep_below_yes, keep_below_no, keep_below_at}
use Rattle.lists.proofs.Values.{values-length, values_at}

-- ---- two functions below n: whether they differ there

abbrev apart : ℕ → (ℕ → ℕ) → (ℕ → ℕ) → Bool
apart n f g = any_below n (λ k. not (eqb (f k) (g k)))

module _ (n : ℕ) (f g : ℕ → ℕ) where
  apart_at : (k : ℕ) → k < n → f k ≢ g k → true ≡ apart n f g
  apart_at k h d = any_below_hit n k (λ k. not (eqb (f k) (g k))) h (ap not (ne_eqb (f k) (g k) d))

  apart_some : apart n f g ≡ true → (k : ℕ) × (k < n) × (f k ≢ g k)
  apart_some e =
      let r = any_below_some n (λ k. not (eqb (f k) (g k))) e in
      (r.0, r.1, eqb-false (f r.0) (g r.0) (not-true (eqb (f r.0) (g r.0)) r.2))

  apart_not : apart n f g ≡ false → (k : ℕ) → k < n → f k ≡ g k
  apart_not e k h = eqb-true (f k) (g k) (not-false (eqb (f k) (g k)) (any_below_not n k (λ k. not (eqb (f k) (g k))) e h))

  not_apart : ((k : ℕ) → k < n → f k ≡ g k) → apart n f g ≡ false
  not_apart e = any_below_none n (λ k. not (eqb (f k) (g k))) (λ k h. ap not (eq-eqb (f k) (g k) (e k h)))

  apart_ext : (m : ℕ) (h : ℕ → ℕ) → n ≡ m → ((k : ℕ) → k < n → g k ≡ h k) → apart n f g ≡ apart m f h
  apart_ext m h q e =
      any_below_ext n (λ k. not (eqb (f k) (g k))) (λ k. not (eqb (f k) (h k))) (λ k b. ap (λ (x : ℕ). not (eqb (f k) x)) (e k b))
      ∙ ap (λ (i : ℕ). apart i f h) q

-- ---- a list and the front of a part

module _ (part : List ℕ) where
  pub differs_none : differs [] part ≡ false
  unfolding differs
  differs_none = any_below_start (λ k. not (eqb (nth part k) (nth [] k)))

  pub differs_at : (l : List ℕ) (k : ℕ) → k < length l → nth part k ≢ nth l k → true ≡ differs l part
  unfolding differs
  differs_at l = apart_at (length l) (nth part) (nth l)

  pub differs_not : (l : List ℕ) → differs l part ≡ false → (k : ℕ) → k < length l → nth part k ≡ nth l k
  unfolding differs
  differs_not l = apart_not (length l) (nth part) (nth l)

  pub not_differs : (l : List ℕ) → ((k : ℕ) → k < length l → nth part k ≡ nth l k) → differs l part ≡ false
  unfolding differs
  not_differs l = not_apart (length l) (nth part) (nth l)

  -- the list stands there
  pub differs-laid : (l : List ℕ) → length l ≤ length part → differs l part ≡ false → part ≡ laid l part
  unfolding laid
  differs-laid l h e =
      sym (take-append-drop (length l) part)
      ∙ ap (λ (x : List ℕ). x ++ drop (length l) part) (ext_get_or 0 (take (length l) part) l long (λ k b. let i : k < length l = omega (arith, long) in get_or-take (length l) part k 0 i ∙ differs_not l e k i))
    where
      long : length (take (length l) part) ≡ length l
      long = simp length-take (omega arith)

  -- the first entries of a list
  pub differs-take : (r : ℕ) (l : List ℕ) → r ≤ length l → any_below r (λ k. not (eqb (nth part k) (nth l k))) ≡ differs (take r l) part
  unfolding differs
  differs-take r l h = apart_ext r (nth part) (nth l) (length (take r l)) (nth (take r l)) (simp length-take (omega arith)) (λ k b. sym (get_or-take r l k 0 b))

  -- ---- a list behind another

  -- a list beside the part from place `at` on
  abbrev pub differs_from : ℕ → List ℕ → Bool
  differs_from at l = any_below (length l) (λ k. not (eqb (nth part (at + k)) (nth l k)))

  pub differs_values : (at k : ℕ) (g : ℕ → ℕ) → any_below k (λ t. not (eqb (nth part (at + t)) (g t))) ≡ differs_from at (values k g)
  differs_values at k g = apart_ext k (λ t. nth part (at + t)) g (length (values k g)) (nth (values k g)) (sym (values-length g k)) (λ t h. sym (values_at g k t 0 h))

  differs-append : (l s : List ℕ) → differs l part ≡ false → differs_from (length l) s ≡ false → differs (l ++ s) part ≡ false
  differs-append l s a b =
      not_differs (l ++ s)
      (λ k h.
      ⊎_elim
      (λ i. differs_not l a k i ∙ sym (get_or-append l s 0 k i))
      (λ i.
      let j : ℕ = k - length l in
      let q : k ≡ length l + j = omega arith in
      ap (nth part) q ∙ apart_not (length s) (λ k. nth part (length l + k)) (nth s) b j (omega (arith, length-append l s)) ∙ sym (get_or-append-add l s j 0) ∙ ap (nth (l ++ s)) (sym q))
      (less_or_not k (length l)))

  -- ---- lists one after another

  module _ (f : ℕ → List ℕ) where
    pub chain_same_start : differs (chain 0 f) part ≡ false
    chain_same_start = ap (λ (l : List ℕ). differs l part) (chain_none f) ∙ differs_none

    pub chain_same_on : (k at : ℕ) → at ≡ start_of f k → differs_from at (f k) ≡ false → differs (chain k f) part ≡ false → differs (chain (k + 1) f) part ≡ false
    chain_same_on k at e b a =
        ap (λ (l : List ℕ). differs l part) (chain_more f k)
        ∙ differs-append (chain k f) (f k) a (ap (λ (w : ℕ). differs_from w (f k)) (sym (e ∙ start_is f k)) ∙ b)

    pub chain_other : (n k at : ℕ) → k < n → at ≡ start_of f k → differs_from at (f k) ≡ true → true ≡ differs (chain n f) part
    chain_other n k at h e b =
        let r = apart_some (length (f k)) (λ j. nth part (at + j)) (nth (f k)) b in
        let j = r.0 in
        differs_at (chain n f) (start_of f k + j) (omega (arith, start_of-le f n k h, start_is f n, r.1))
        (λ z. r.2 (ap (λ (w : ℕ). nth part (w + j)) e ∙ z ∙ chain_at f n k j 0 h r.1))

  -- ---- numbers that pass a test

  -- those below j are the first k entries
  pub record Begins (test : ℕ → Bool) (j k : ℕ) : Type 0 where
    pub count : k ≡ length (keep_below test j)
    pub same : differs (keep_below test j) part ≡ false

  module _ (test : ℕ → Bool) where
    pub begins_start : Begins test 0 0
    begins_start = record { count = sym (ap length (keep_below_none test)); same = ap (λ (l : List ℕ). differs l part) (keep_below_none test) ∙ differs_none }

    pub begins_pass : (j k : ℕ) → test j ≡ true → nth part k ≡ j → Begins test j k → Begins test (j + 1) (k + 1)
    begins_pass j k t e w = record {
      count = more (λ l. k + 1 ≡ length l) (rw (length-append, w.count));
      same = more (λ l. differs l part ≡ false) (differs-append (keep_below test j) (j ∷ []) w.same (one (ap (nth part) (sym w.count) ∙ e)));
    }
      where
        more : (P : List ℕ → Type 0) → P (keep_below test j ++ j ∷ []) → P (keep_below test (j + 1))
        more P h = rw (add-one j, keep_below_yes test j t) h

        one : nth part (length (keep_below test j)) ≡ j → differs_from (length (keep_below test j)) (j ∷ []) ≡ false
        one h =
            not_apart 1 (λ i. nth part (length (keep_below test j) + i)) (nth (j ∷ []))
            (λ i b. let z : i ≡ 0 = omega arith in rw (z, add-zero) h)

    pub begins_fail : (j k : ℕ) → test j ≡ false → Begins test j k → Begins test (j + 1) k
    begins_fail j k t w = rw (add-one j) record { count = w.count ∙ ap length (sym (keep_below_no test j t)); same = ap (λ (l : List ℕ). differs l part) (keep_below_no test j t) ∙ w.same }

    pub begins_not : (n j k : ℕ) → j < n → test j ≡ true → nth part k ≢ j → Begins test j k → true ≡ differs (keep_below test n) part
    begins_not n j k h t d w =
        let r = keep_below_at test n j h t in
        differs_at (keep_below test n) (length (keep_below test j)) r.0 (λ z. d (ap (nth part) w.count ∙ z ∙ r.1))
