-- An exchange of two rows: what each row is after it, and that it keeps the solutions.
-- Assumes nothing.
use mathlib.Core.Path.{◌≡◌, refl, ap, ◌∙◌}
use mathlib.Core.Logic.{◌≢◌, ◌⊎◌, inl, inr, ⊎_elim, ◌↔◌}
use Prim.Native.Nat.{ℕ, ◌<◌}
use lib.Dec.{eqb}
use Rattle.lists.specs.Choice.{pick}
use Rattle.lists.proofs.Cases.{same_or_not}
use Rattle.lists.proofs.Choice.{pick_same, pick_other}
use Rattle.field.specs.Field.{product}
use Rattle.field.specs.FieldSum.{field_sum}
use Rattle.elimination.specs.Matrix.{Matrix}
use Rattle.elimination.specs.Elimination.{swapped}
use Rattle.elimination.specs.Solutions.{row_times, Solves}

module _ (r p : ℕ) (h : Matrix) where
  pub swapped_r : swapped r p h r ≡ h p
  unfolding swapped
  swapped_r = pick_same r r (h p) (pick (eqb r p) (h r) (h r)) refl

  pub swapped_p : swapped r p h p ≡ h r
  unfolding swapped
  swapped_p =
      ⊎_elim
      (λ e. pick_same p r (h p) (pick (eqb p p) (h r) (h p)) e ∙ ap h e)
      (λ k. pick_other p r (h p) (pick (eqb p p) (h r) (h p)) k ∙ pick_same p p (h r) (h p) refl)
      (same_or_not p r)

  pub swapped_other : (i : ℕ) → i ≢ r → i ≢ p → swapped r p h i ≡ h i
  unfolding swapped
  swapped_other i k l = pick_other i r (h p) (pick (eqb i p) (h r) (h i)) k ∙ pick_other i p (h r) (h i) l

  -- what holds of the two rows in each other's place, and of each other row, holds of every row
  pub swapped_each {ℓ} : (P : ℕ → (ℕ → ℕ) → Type ℓ) → P r (h p) → P p (h r) → ((i : ℕ) → i ≢ r → i ≢ p → P i (h i)) → (i : ℕ) → P i (swapped r p h i)
  swapped_each P a b c i = go (same_or_not i r) (same_or_not i p)
    where
      go : (i ≡ r) ⊎ (i ≢ r) → (i ≡ p) ⊎ (i ≢ p) → P i (swapped r p h i)
      go (inl e) q = rw (e, swapped_r) a
      go (inr k) (inl e) = rw (e, swapped_p) b
      go (inr k) (inr l) = rw (swapped_other i k l) (c i k l)

pub swapped_solves : (m n r p : ℕ) (h : Matrix) (x : ℕ → ℕ) → r < m → p < m → Solves m n (swapped r p h) x ↔ Solves m n h x
unfolding row_times
swapped_solves m n r p h x hr hp = (back, there)
  where
    there : Solves m n h x → Solves m n (swapped r p h) x
    there s = swapped_each r p h (λ i f. i < m → field_sum n (λ j. product (f j) (x j)) ≡ 0) (λ l. s p hp) (λ l. s r hr) (λ i k l q. s i q)

    back : Solves m n (swapped r p h) x → Solves m n h x
    back s i l = go (same_or_not i r) (same_or_not i p)
      where
        go : (i ≡ r) ⊎ (i ≢ r) → (i ≡ p) ⊎ (i ≢ p) → row_times n h x i ≡ 0
        go (inl e) q = rw e (rw (swapped_p r p h) at (s p hp))
        go (inr k) (inl e) = rw e (rw (swapped_r r p h) at (s r hr))
        go (inr k) (inr f) = rw (swapped_other r p h i k f) at (s i l)
