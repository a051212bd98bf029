-- A round's definitions see only the vectors at the places that they name: alike there, they give the same.
-- Assumes nothing.
use Prim.Native.Nat.{ℕ, ◌+◌, ◌-◌, ◌<◌, ◌≤◌}
use mathlib.Core.Path.{◌≡◌, sym, ap, ap₂, ◌∙◌}
use mathlib.Core.Logic.{◌⊎◌, inl, inr}
use mathlib.Core.List.{List}
use native.Mathlib.Omega.{arith}
use borrow.Author.Tests.{ltb-true, ltb-false}
use lib.Dec.{eqb, ltb}
use lib.ListN.{replicate}
use Rattle.lists.specs.Choice.{pick}
use Rattle.lists.specs.Entry.{nth}
use Rattle.lists.specs.Iter.{iter}
use Rattle.lists.specs.Lowest.{lowest}
use Rattle.lists.proofs.Cases.{less_or_not}
use Rattle.lists.proofs.Iter.{iter_start, iter_on, iter_ext}
use Rattle.lists.proofs.Lowest.{lowest_is}
use Rattle.lists.proofs.Rising.{rises, between}
use Rattle.vectors.specs.Float32.{one32}
use Rattle.vectors.specs.Vector.{Vector, entry_product}
use Rattle.vectors.specs.Wht.{wht}
use Rattle.vectors.specs.Multiplied.{permuted}
use Rattle.vectors.specs.Normalized.{normalized}
use Rattle.rounds.specs.Tanner.{check_of, degree_of, place_of}
use Rattle.rounds.specs.CheckStep.{input, product_of, others, outgoing, from_check}
use Rattle.rounds.specs.VariableStep.{gathered, gathered_without, posterior, to_check}
use Rattle.rounds.specs.Ready.{Rows, Columns}

-- ---- the check step

-- a product as a loop makes it
pub product_of_start : (f : ℕ → Vector) → replicate 32 one32 ≡ product_of 0 f
unfolding product_of
product_of_start f = iter_start (λ j p. entry_product p (f j)) (replicate 32 one32)

pub product_of_on : (k : ℕ) (f : ℕ → Vector) (p q : Vector) → p ≡ product_of k f → q ≡ f k → entry_product p q ≡ product_of (k + 1) f
unfolding product_of
product_of_on k f p q e d = ap (entry_product p) d ∙ iter_on k (λ j p. entry_product p (f j)) (replicate 32 one32) p e

pub product_of_ext : (k : ℕ) (f g : ℕ → Vector) → ((j : ℕ) → j < k → f j ≡ g j) → product_of k f ≡ product_of k g
unfolding product_of
product_of_ext k f g e = iter_ext k _ _ _ (λ j h p. ap (entry_product p) (e j h))

pub others_ext : (lo hi : ℕ) (f g : ℕ → Vector) (e : ℕ) → lo ≤ e → e < hi → ((i : ℕ) → lo ≤ i → i < hi → f i ≡ g i) → others lo hi f e ≡ others lo hi g e
unfolding others
others_ext lo hi f g e a b h =
    ap₂ entry_product (product_of_ext (e - lo) _ _ (λ j l. h (lo + j) (omega arith) (omega arith))) (product_of_ext (hi - 1 - e) _ _ (λ j l. h (hi - 1 - j) (omega arith) (omega arith)))

pub input_ext : (coef : List ℕ) (to to' : ℕ → Vector) (e : ℕ) → to e ≡ to' e → input coef to e ≡ input coef to' e
unfolding input
input_ext coef to to' e q = ap (λ (p : Vector). wht (permuted (nth coef e) p)) q

module _ (m : ℕ) (coef row : List ℕ) (r : Rows m coef row) where
  -- the check in whose edges a place stands
  pub check_of_is : (c e : ℕ) → c < m → nth row c ≤ e → e < nth row (c + 1) → check_of m row e ≡ c
  unfolding check_of
  check_of_is c e h a b =
      let p = lowest (λ c. ltb e (nth row (c + 1))) m 0 in
      let w = lowest_is (λ c. ltb e (nth row (c + 1))) m 0 in
      let low : p ≤ c = at_most p c (λ q. omega (arith, ltb-false e (nth row (c + 1)) (w.none c (omega arith) q))) in
      let high : c ≤ p = at_most c p (λ q. omega (arith, ltb-true e (nth row (p + 1)) (w.found (omega arith)), rises m (nth row) r.rise (p + 1) c (omega arith) (omega arith))) in
      omega arith
    where
      at_most : (i j : ℕ) → (j < i → ⊥) → i ≤ j
      at_most i j n = go (less_or_not j i)
        where
          go : (j < i) ⊎ (i ≤ j) → i ≤ j
          go (inl q) = absurd (n q)
          go (inr q) = q

  pub from_check_is : (to : ℕ → Vector) (c e : ℕ) → c < m → nth row c ≤ e → e < nth row (c + 1)
      → from_check m coef row to e ≡ outgoing (nth coef e) (others (nth row c) (nth row (c + 1)) (input coef to) e)
  unfolding from_check
  from_check_is to c e h a b = ap (λ (i : ℕ). outgoing (nth coef e) (others (nth row i) (nth row (i + 1)) (input coef to) e)) (check_of_is c e h a b)

  pub from_check_ext : (to to' : ℕ → Vector) → ((e : ℕ) → e < nth row m → to e ≡ to' e) → (e : ℕ) → e < nth row m → from_check m coef row to e ≡ from_check m coef row to' e
  from_check_ext to to' q e h =
      let u = between m (nth row) e (omega (arith, r.first)) h in
      let c = u.0 in
      let end = rises m (nth row) r.rise (c + 1) m (omega (arith, u.1)) (omega arith) in
      from_check_is to c e u.1 u.2 u.3
      ∙ ap (outgoing (nth coef e)) (others_ext (nth row c) (nth row (c + 1)) (input coef to) (input coef to') e u.2 u.3 (λ i a b. input_ext coef to to' i (q i (omega arith))))
      ∙ sym (from_check_is to' c e u.1 u.2 u.3)

-- ---- the variable step

gathered_ext : (d : ℕ) (place : ℕ → ℕ) (f g : ℕ → Vector) (p q : Vector) → p ≡ q → ((j : ℕ) → j < d → f (place j) ≡ g (place j)) → gathered d place f p ≡ gathered d place g q
unfolding gathered
gathered_ext d place f g p q e h = iter_ext d _ _ p (λ j l s. ap (entry_product s) (h j l)) ∙ ap (iter d _) e

without_ext : (e d : ℕ) (place : ℕ → ℕ) (f g : ℕ → Vector) (p q : Vector) → p ≡ q → ((j : ℕ) → j < d → f (place j) ≡ g (place j))
    → gathered_without e d place f p ≡ gathered_without e d place g q
unfolding gathered_without
without_ext e d place f g p q r h = iter_ext d _ _ p (λ j l s. ap (λ (x : Vector). pick (eqb (place j) e) s (entry_product s x)) (h j l)) ∙ ap (iter d _) r

module _ (n : ℕ) (start col : List ℕ) (k : Columns n start col) (channel channel' : ℕ → Vector) (from by : ℕ → Vector) (v : ℕ) (h : v < n) (a : channel v ≡ channel' v)
    (b : (e : ℕ) → e < nth start n → from e ≡ by e) where
  listed : (j : ℕ) → j < degree_of start v → from (place_of start col v j) ≡ by (place_of start col v j)
  listed j l =
      let end = rises n (nth start) k.rise (v + 1) n (omega arith) (omega arith) in
      b (place_of start col v j) (k.places (nth start v + j) (omega arith))

  pub posterior_ext : posterior start col channel from v ≡ posterior start col channel' by v
  unfolding posterior
  posterior_ext = ap normalized (gathered_ext (degree_of start v) (place_of start col v) from by (channel v) (channel' v) a listed)

  pub to_check_ext : (e : ℕ) → to_check start col channel from v e ≡ to_check start col channel' by v e
  unfolding to_check
  to_check_ext e = ap normalized (without_ext e (degree_of start v) (place_of start col v) from by (channel v) (channel' v) a listed)
