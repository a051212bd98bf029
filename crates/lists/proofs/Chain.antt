-- Laws of lists one after another: what is appended, where each list begins, and what stands there.
-- Assumes nothing.
use Prim.Native.Nat.{ℕ, zero, suc, ◌+◌, ◌-◌, ◌*◌, ◌<◌, ◌≤◌}
use mathlib.Core.Path.{◌≡◌, refl, ap, ap₂, sym, ◌∙◌, subst}
use mathlib.Core.List.{List, [], ◌++◌, map, map-append}
use mathlib.Core.Logic.{⊎_elim}
use native.Mathlib.Nat.{le_refl, le_step, le_of_suc-le-suc, eq-or-lt_of_le, not-suc-le-zero, zero-mul, suc-mul}
use native.Mathlib.Numerals.{add-one}
use native.Mathlib.Omega.{arith}
use lib.ListN.{length, get_or, length-append, get_or-append}
use lib.Seq.{get_or-append-add}
use Rattle.lists.specs.Iter.{iter}
use Rattle.lists.specs.Chain.{chain, start_of}
use Rattle.lists.specs.Total.{total}
use Rattle.lists.specs.Values.{values}
use Rattle.lists.specs.Laid.{laid, laid_from}
use Rattle.lists.proofs.Cases.{less_or_not}
use Rattle.lists.proofs.Total.{total_none, total-suc, total_ext}
use Rattle.lists.proofs.Rising.{rises}
use Rattle.lists.proofs.Laid.{laid_start, from_laid}
use Rattle.lists.proofs.Values.{values_none, values-add}

module _ {ℓ} {A : Type ℓ} (f : ℕ → List A) where
  pub chain_none : chain 0 f ≡ []
  unfolding chain iter
  chain_none = refl

  pub chain-suc : (n : ℕ) → chain (suc n) f ≡ chain n f ++ f n
  unfolding chain iter
  chain-suc n = refl

  pub chain_more : (n : ℕ) → chain (n + 1) f ≡ chain n f ++ f n
  chain_more n = ap (λ (k : ℕ). chain k f) (add-one n) ∙ chain-suc n

  pub chain-length : (n : ℕ) → length (chain n f) ≡ total n (λ k. length (f k))
  chain-length zero = ap length chain_none ∙ sym (total_none (λ k. length (f k)))
  chain-length (suc n) =
      ap length (chain-suc n) ∙ length-append (chain n f) (f n)
      ∙ ap (λ (k : ℕ). k + length (f n)) (chain-length n) ∙ sym (total-suc (λ k. length (f k)) n)

  -- ---- where each begins

  pub start_none : start_of f 0 ≡ 0
  unfolding start_of
  start_none = ap length chain_none

  pub start_more : (n : ℕ) → start_of f (n + 1) ≡ start_of f n + length (f n)
  unfolding start_of
  start_more n = ap length (chain_more n) ∙ length-append (chain n f) (f n)

  pub start_is : (n : ℕ) → start_of f n ≡ length (chain n f)
  unfolding start_of
  start_is n = refl

  pub start_up : (n k : ℕ) → k ≤ n → start_of f k ≤ start_of f n
  start_up n k h = rises n (start_of f) (λ i l. omega (arith, start_more i)) k n h (le_refl n)

  -- each is over before the end
  pub start_of-le : (n k : ℕ) → k < n → start_of f k + length (f k) ≤ start_of f n
  start_of-le n k h = omega (arith, start_more k, start_up n (k + 1) (omega arith))

  -- ---- what stands there

  pub chain_at : (n k j : ℕ) (d : A) → k < n → j < length (f k) → get_or (chain n f) (start_of f k + j) d ≡ get_or (f k) j d
  chain_at zero k j d h l = absurd (not-suc-le-zero h)
  chain_at (suc n) k j d h l =
      ap (λ (w : List A). get_or w (start_of f k + j) d) (chain-suc n)
      ∙ ⊎_elim
      (λ e. last e)
      (λ b. get_or-append (chain n f) (f n) d (start_of f k + j) (omega (arith, start_of-le n k b, start_is n)) ∙ chain_at n k j d b l)
      (eq-or-lt_of_le (le_of_suc-le-suc h))
    where
      last : k ≡ n → get_or (chain n f ++ f n) (start_of f k + j) d ≡ get_or (f k) j d
      last e =
          ap (λ (w : ℕ). get_or (chain n f ++ f n) (w + j) d) (ap (start_of f) e ∙ start_is n)
          ∙ get_or-append-add (chain n f) (f n) j d ∙ ap (λ (w : ℕ). get_or (f w) j d) (sym e)

  -- each entry is one of a list
  pub chain_place : (n e : ℕ) → e < length (chain n f) → (k : ℕ) × (j : ℕ) × (k < n) × (j < length (f k)) × (e ≡ start_of f k + j)
  chain_place zero e h = absurd (not-suc-le-zero (rw chain_none at h))
  chain_place (suc n) e h =
      ⊎_elim
      (λ b. let r = chain_place n e b in (r.0, r.1, le_step r.2, r.3, r.4))
      (λ b. let m = ap length (chain-suc n) ∙ length-append (chain n f) (f n) in (n, e - length (chain n f), le_refl (suc n), omega arith, omega (arith, start_is n)))
      (less_or_not e (length (chain n f)))

  -- what holds of each list's entries
  pub chain_each {ℓ'} : (P : A → Type ℓ') (d : A) (n : ℕ) → ((k j : ℕ) → k < n → j < length (f k) → P (get_or (f k) j d)) → (e : ℕ) → e < length (chain n f) → P (get_or (chain n f) e d)
  chain_each P d n h e l =
      let r = chain_place n e l in
      subst P (sym (ap (λ (i : ℕ). get_or (chain n f) i d) r.4 ∙ chain_at n r.0 r.1 d r.2 r.3)) (h r.0 r.1 r.2 r.3)

  -- ---- in a part that a loop fills, list after list

  pub chain_start : (p : List A) → p ≡ laid (chain 0 f) p
  chain_start p = laid_start p ∙ ap (λ (l : List A). laid l p) (sym chain_none)

  pub chain_on : (k at : ℕ) (p q r : List A) → at ≡ start_of f k → q ≡ laid (chain k f) p → r ≡ laid_from at (f k) q → r ≡ laid (chain (k + 1) f) p
  chain_on k at p q r e h d =
      d ∙ ap (laid_from at (f k)) h ∙ from_laid at (chain k f) (f k) p (e ∙ start_is k)
      ∙ ap (λ (l : List A). laid l p) (sym (chain_more k))

-- ---- lists that agree, and a function of each entry

pub chain_ext {ℓ} : {A : Type ℓ} (n : ℕ) (f g : ℕ → List A) → ((k : ℕ) → k < n → f k ≡ g k) → chain n f ≡ chain n g
chain_ext zero f g e = chain_none f ∙ sym (chain_none g)
chain_ext (suc n) f g e =
    chain-suc f n ∙ ap₂ (λ a b. a ++ b) (chain_ext n f g (λ k h. e k (le_step h))) (e n (le_refl (suc n))) ∙ sym (chain-suc g n)

pub map-chain {ℓ} : {A B : Type ℓ} (h : A → B) (n : ℕ) (f : ℕ → List A) → map h (chain n f) ≡ chain n (λ k. map h (f k))
map-chain h zero f = ap (map h) (chain_none f) ∙ sym (chain_none (λ k. map h (f k)))
map-chain h (suc n) f =
    ap (map h) (chain-suc f n) ∙ map-append h (chain n f) (f n)
    ∙ ap (λ l. l ++ map h (f n)) (map-chain h n f) ∙ sym (chain-suc (λ k. map h (f k)) n)

-- lists of equal lengths begin at the same places
pub start_lengths {ℓ ℓ'} : {A : Type ℓ} {B : Type ℓ'} (n : ℕ) (f : ℕ → List A) (g : ℕ → List B) → ((k : ℕ) → k < n → length (f k) ≡ length (g k)) → start_of f n ≡ start_of g n
start_lengths n f g e =
    start_is f n ∙ chain-length f n ∙ total_ext n (λ k. length (f k)) (λ k. length (g k)) e ∙ sym (start_is g n ∙ chain-length g n)

-- n lists of k entries each
pub chain_even {ℓ} : {A : Type ℓ} (k n : ℕ) (f : ℕ → List A) → ((i : ℕ) → i < n → length (f i) ≡ k) → length (chain n f) ≡ n * k
chain_even k zero f e = ap length (chain_none f) ∙ sym (zero-mul k)
chain_even k (suc n) f e =
    let i = chain_even k n f (λ i h. e i (le_step h)) in
    let a = ap length (chain-suc f n) ∙ length-append (chain n f) (f n) in
    let b = e n (le_refl (suc n)) in
    omega (arith, suc-mul n k)

pub start_even {ℓ} : {A : Type ℓ} (k n : ℕ) (f : ℕ → List A) → ((i : ℕ) → i < n → length (f i) ≡ k) → start_of f n ≡ n * k
start_even k n f e = start_is f n ∙ chain_even k n f e

-- values that run on from list to list
pub chain-values {ℓ ℓ'} : {A : Type ℓ} {B : Type ℓ'} (n : ℕ) (f : ℕ → List A) (h : ℕ → B) → chain n (λ k. values (length (f k)) (λ j. h (start_of f k + j))) ≡ values (start_of f n) h
chain-values zero f h =
    chain_none (λ k. values (length (f k)) (λ j. h (start_of f k + j))) ∙ sym (values_none h) ∙ ap (λ (k : ℕ). values k h) (sym (start_none f))
chain-values (suc n) f h =
    chain-suc (λ k. values (length (f k)) (λ j. h (start_of f k + j))) n
    ∙ ap (λ l. l ++ values (length (f n)) (λ j. h (start_of f n + j))) (chain-values n f h)
    ∙ sym (values-add (start_of f n) (length (f n)) h)
    ∙ ap (λ (k : ℕ). values k h) (sym (start_more f n) ∙ ap (start_of f) (add-one n))
