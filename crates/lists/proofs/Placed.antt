-- Values placed at positions of a list: none, one more and all; its length, and its entry at one of the positions and at any other.
-- Assumes nothing.
use mathlib.Core.Path.{◌≡◌, refl, sym, ap, ap₂, ◌∙◌}
use mathlib.Core.Logic.{◌≢◌, ◌⊎◌, inl, inr, ⊎_elim}
use mathlib.Core.List.{List}
use Prim.Native.Nat.{ℕ, zero, suc, ◌+◌, ◌<◌, ◌≤◌}
use native.Mathlib.Nat.{le_refl, le_step, not-suc-le-zero}
use native.Mathlib.Omega.{arith}
use lib.ListN.{length, set, take, length-set}
use lib.Seq.{get_or-set_same, get_or-set_other, set_out, get_or-take, length-take-le}
use Rattle.lists.specs.Iter.{iter}
use Rattle.lists.specs.Entry.{nth}
use Rattle.lists.specs.Placed.{placed}
use Rattle.lists.proofs.Cases.{same_or_not, less_or_not}
use Rattle.lists.proofs.Iter.{iter_start, iter_on, iter_end, iter_ext}

pub set_small : (l : List ℕ) (i a b : ℕ) → a < b → ((j : ℕ) → nth l j < b) → (j : ℕ) → nth (set l i a) j < b
set_small l i a b h f j = go (same_or_not j i)
  where
    go : (j ≡ i) ⊎ (j ≢ i) → nth (set l i a) j < b
    go (inl e) = ⊎_elim (λ k. rw (e, get_or-set_same l i a 0 k) h) (λ k. rw (set_out l i a k) (f j)) (less_or_not i (length l))
    go (inr n) = rw (get_or-set_other l i j a 0 n) (f j)

module _ (p v : ℕ → ℕ) (x : List ℕ) where
  pub placed_start : x ≡ placed 0 p v x
  unfolding placed
  placed_start = iter_start _ x

  pub placed_on : (k : ℕ) (y : List ℕ) → y ≡ placed k p v x → set y (p k) (v k) ≡ placed (k + 1) p v x
  unfolding placed
  placed_on k y h = iter_on k (λ t y. set y (p t) (v t)) x y h

  pub placed_end : (n k : ℕ) (y : List ℕ) → k ≡ n → y ≡ placed k p v x → y ≡ placed n p v x
  unfolding placed
  placed_end n k y e h = iter_end n k (λ t y. set y (p t) (v t)) x y e h

  pub placed-length : (k : ℕ) → length (placed k p v x) ≡ length x
  unfolding placed iter
  placed-length zero = refl
  placed-length (suc k) = length-set (placed k p v x) (p k) (v k) ∙ placed-length k

  -- entries below a bound
  pub placed_small : (b k : ℕ) → ((t : ℕ) → t < k → v t < b) → ((j : ℕ) → nth x j < b) → (j : ℕ) → nth (placed k p v x) j < b
  unfolding placed iter
  placed_small b zero f g j = g j
  placed_small b (suc k) f g j = set_small (placed k p v x) (p k) (v k) b (f k (le_refl (suc k))) (placed_small b k (λ t h. f t (le_step h)) g) j

  -- at none of the positions
  pub placed_other : (k j : ℕ) → ((t : ℕ) → t < k → p t ≢ j) → nth (placed k p v x) j ≡ nth x j
  unfolding placed iter
  placed_other zero j f = refl
  placed_other (suc k) j f =
      get_or-set_other (placed k p v x) (p k) j (v k) 0 (λ e. f k (le_refl (suc k)) (sym e)) ∙ placed_other k j (λ t h. f t (le_step h))

  -- at one of them, where no two are the same
  pub placed_at : (k t : ℕ) → t < k → p t < length x → ((i : ℕ) → i < k → p i ≡ p t → i ≡ t) → nth (placed k p v x) (p t) ≡ v t
  unfolding placed iter
  placed_at zero t h b d = absurd (not-suc-le-zero h)
  placed_at (suc k) t h b d = go (placed_at k t) (same_or_not k t)
    where
      go : (t < k → p t < length x → ((i : ℕ) → i < k → p i ≡ p t → i ≡ t) → nth (placed k p v x) (p t) ≡ v t) → (k ≡ t) ⊎ (k ≢ t)
          → nth (placed (suc k) p v x) (p t) ≡ v t
      go old (inl e) = rw (← e) (get_or-set_same (placed k p v x) (p k) (v k) 0 (rw (placed-length k, e) b))
      go old (inr q) =
          get_or-set_other (placed k p v x) (p k) (p t) (v k) 0 (λ e. q (d k (le_refl (suc k)) (sym e))) ∙ old (omega (arith, q)) b (λ i l. d i (le_step l))

-- the same positions and values
pub placed_ext : (k : ℕ) (p q v u : ℕ → ℕ) (x : List ℕ) → ((t : ℕ) → t < k → p t ≡ q t) → ((t : ℕ) → t < k → v t ≡ u t) → placed k p v x ≡ placed k q u x
unfolding placed
placed_ext k p q v u x e f = iter_ext k (λ t y. set y (p t) (v t)) (λ t y. set y (q t) (u t)) x (λ t h y. ap₂ (λ (i a : ℕ). set y i a) (e t h) (f t h))

-- at the positions in front of a list
pub placed_front : (l : List ℕ) (k : ℕ) (v : ℕ → ℕ) (x : List ℕ) → k ≤ length l → placed (length (take k l)) (nth (take k l)) v x ≡ placed k (nth l) v x
placed_front l k v x h =
    ap (λ (n : ℕ). placed n (nth (take k l)) v x) (length-take-le k l h)
    ∙ placed_ext k (nth (take k l)) (nth l) v v x (λ t b. get_or-take k l t 0 b) (λ t b. refl)
