-- A loop that writes each entry of a list in place, and a list with another in the place of some of its entries.
-- Assumes nothing.
use Prim.Native.Nat.{ℕ, ◌+◌, ◌-◌, ◌<◌, ◌≤◌}
use mathlib.Core.Path.{◌≡◌, ap, sym, ◌∙◌}
use mathlib.Core.List.{List, ◌++◌}
use native.Mathlib.Omega.{arith}
use lib.ListN.{length, get_or, set, take}
use lib.Seq.{drop-drop}
use borrow.Rule.Slice.PartMut.{put_mid}
use Rattle.lists.specs.Laid.{laid, laid_from}
use Rattle.lists.specs.Values.{values}
use Rattle.lists.proofs.Laid.{fill_on, from_zero, from_after}
use Rattle.lists.proofs.Values.{values-length}

module _ {ℓ} {A : Type ℓ} where
  -- what a list is not laid over
  pub laid_past : (l p : List A) (k : ℕ) (d : A) → length l ≤ k → get_or (laid l p) k d ≡ get_or p k d
  laid_past l p k d h = ap (λ q. get_or q k d) (sym (from_zero l p)) ∙ from_after 0 k l p d (omega arith) (omega arith)

  -- entry k becomes g k of what stood there, where the first k have become so
  pub each_on : (g : ℕ → A → A) (d : A) (k : ℕ) (p q : List A) → k < length p → q ≡ laid (values k (λ x. g x (get_or p x d))) p
      → set q k (g k (get_or q k d)) ≡ laid (values (k + 1) (λ x. g x (get_or p x d))) p
  each_on g d k p q h e =
      ap (λ x. set q k (g k x)) (ap (λ l. get_or l k d) e ∙ laid_past (values k (λ x. g x (get_or p x d))) p k d (omega (arith, values-length (λ x. g x (get_or p x d)) k)))
      ∙ fill_on (λ x. g x (get_or p x d)) k p q h e

-- what is written to a part of a list is laid from its place on
pub put_laid : {A : Type 0} (at n : ℕ) (p l : List A) → n ≡ length l → put_mid at (at + n - at) p l ≡ laid_from at l p
unfolding laid_from
put_laid at n p l e =
    let q : at + n - at ≡ length l = omega arith in
    rw q (ap (λ (r : List _). take at p ++ (l ++ r)) (drop-drop (length l) at p))
