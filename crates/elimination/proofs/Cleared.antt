-- A column cleared by a row: the entries after it, and that it keeps the solutions.
-- Assumes nothing.
use mathlib.Core.Path.{◌≡◌, refl, sym, ap, ap₂, ◌∙◌}
use mathlib.Core.Logic.{◌≢◌, ⊎_elim, ◌↔◌}
use Prim.Native.Nat.{ℕ, ◌<◌}
use lib.Bits.{bit_xor, xor_zero_r, xor_self}
use Rattle.lists.proofs.Cases.{same_or_not}
use Rattle.lists.proofs.Choice.{pick_same, pick_other}
use Rattle.field.specs.Field.{product, inverse}
use Rattle.field.specs.FieldSum.{field_sum}
use Rattle.field.proofs.Sum.{xor32}
use Rattle.field.proofs.Product.{product-lt, product-zero, product_assoc, product_comm, xor_product, one_product, inverse-product}
use Rattle.field.proofs.FieldSum.{sum_ext, sum_xor, sum_product, sum_lt}
use Rattle.elimination.specs.Matrix.{Matrix}
use Rattle.elimination.specs.Elimination.{scaled, cleared}
use Rattle.elimination.specs.Solutions.{row_times, Solves}

module _ (r c : ℕ) (h : Matrix) where
  pub cleared_r : (j : ℕ) → cleared r c h r j ≡ scaled r c h j
  unfolding cleared
  cleared_r j = pick_same r r (scaled r c h j) (bit_xor (h r j) (product (h r c) (scaled r c h j))) refl

  pub cleared_other : (i j : ℕ) → i ≢ r → cleared r c h i j ≡ bit_xor (h i j) (product (h i c) (scaled r c h j))
  unfolding cleared
  cleared_other i j k = pick_other i r (scaled r c h j) (bit_xor (h i j) (product (h i c) (scaled r c h j))) k

  pub cleared-lt : ((i j : ℕ) → h i j < 32) → (i j : ℕ) → cleared r c h i j < 32
  cleared-lt b i j =
      ⊎_elim
      (λ e. rw e (rw (cleared_r j) (product-lt (inverse (h r c)) (h r j))))
      (λ k. rw (cleared_other i j k) (xor32 (h i j) (product (h i c) (scaled r c h j)) (b i j) (product-lt (h i c) (scaled r c h j))))
      (same_or_not i r)

  -- a column with 0 in row r stays as it is
  pub cleared_keep : (q : ℕ) → h r q ≡ 0 → (i : ℕ) → cleared r c h i q ≡ h i q
  cleared_keep q z i =
      ⊎_elim
      (λ e. rw e (cleared_r q ∙ none ∙ sym z))
      (λ k. cleared_other i q k ∙ ap (bit_xor (h i q)) (ap (product (h i c)) none ∙ product-zero (h i c)) ∙ xor_zero_r (h i q))
      (same_or_not i r)
    where
      none : scaled r c h q ≡ 0
      none = ap (product (inverse (h r c))) z ∙ product-zero (inverse (h r c))

  module _ (b : h r c < 32) (nz : h r c ≢ 0) where
    pub cleared_one : cleared r c h r c ≡ 1
    cleared_one = cleared_r c ∙ inverse-product (h r c) b nz

    pub cleared-zero : (i : ℕ) → h i c < 32 → i ≢ r → cleared r c h i c ≡ 0
    cleared-zero i a k =
        cleared_other i c k
        ∙ ap (λ (y : ℕ). bit_xor (h i c) (product (h i c) y)) (inverse-product (h r c) b nz)
        ∙ ap (bit_xor (h i c)) (product_comm (h i c) 1 ∙ one_product (h i c) a)
        ∙ xor_self (h i c)

-- ---- rows times a word

module _ (n r c : ℕ) (h : Matrix) (x : ℕ → ℕ) where
  row_r : row_times n (cleared r c h) x r ≡ product (inverse (h r c)) (row_times n h x r)
  unfolding row_times
  row_r =
      sum_ext n (λ j. product (cleared r c h r j) (x j)) (λ j. product (inverse (h r c)) (product (h r j) (x j)))
      (λ j l. ap (λ (y : ℕ). product y (x j)) (cleared_r r c h j) ∙ product_assoc (inverse (h r c)) (h r j) (x j))
      ∙ sum_product n (inverse (h r c)) (λ j. product (h r j) (x j))

  row_other : (i : ℕ) → i ≢ r → row_times n (cleared r c h) x i ≡ bit_xor (row_times n h x i) (product (product (h i c) (inverse (h r c))) (row_times n h x r))
  unfolding row_times
  row_other i k =
      sum_ext n (λ j. product (cleared r c h i j) (x j)) (λ j. bit_xor (product (h i j) (x j)) (product f (product (h r j) (x j))))
      (λ j l. ap (λ (y : ℕ). product y (x j)) (cleared_other r c h i j k)
      ∙ xor_product (h i j) (product (h i c) (scaled r c h j)) (x j)
      ∙ ap (bit_xor (product (h i j) (x j)))
      (ap (λ (y : ℕ). product y (x j)) (sym (product_assoc (h i c) (inverse (h r c)) (h r j))) ∙ product_assoc f (h r j) (x j)))
      ∙ sum_xor n (λ j. product (h i j) (x j)) (λ j. product f (product (h r j) (x j)))
      ∙ ap (bit_xor (field_sum n (λ j. product (h i j) (x j)))) (sum_product n f (λ j. product (h r j) (x j)))
    where
      f : ℕ
      f = product (h i c) (inverse (h r c))

  row_lt : (i : ℕ) → row_times n h x i < 32
  unfolding row_times
  row_lt i = sum_lt n (λ j. product (h i j) (x j)) (λ j l. product-lt (h i j) (x j))

pub cleared_solves : (m n r c : ℕ) (h : Matrix) (x : ℕ → ℕ) → r < m → h r c < 32 → h r c ≢ 0 → Solves m n (cleared r c h) x ↔ Solves m n h x
cleared_solves m n r c h x hr b nz = (back, there)
  where
    v : ℕ
    v = inverse (h r c)

    there : Solves m n h x → Solves m n (cleared r c h) x
    there s i l =
        ⊎_elim
        (λ e. rw e (row_r n r c h x ∙ ap (product v) (s r hr) ∙ product-zero v))
        (λ k. row_other n r c h x i k ∙ ap₂ (λ (a b : ℕ). bit_xor a (product (product (h i c) v) b)) (s i l) (s r hr) ∙ product-zero (product (h i c) v))
        (same_or_not i r)

    back : Solves m n (cleared r c h) x → Solves m n h x
    back s i l = ⊎_elim (λ e. rw e at_r) other (same_or_not i r)
      where
        at_r : row_times n h x r ≡ 0
        at_r =
            sym (one_product (row_times n h x r) (row_lt n r c h x r))
            ∙ ap (λ (y : ℕ). product y (row_times n h x r)) (sym (inverse-product (h r c) b nz) ∙ product_comm v (h r c))
            ∙ product_assoc (h r c) v (row_times n h x r)
            ∙ ap (product (h r c)) (sym (row_r n r c h x) ∙ s r hr)
            ∙ product-zero (h r c)

        other : i ≢ r → row_times n h x i ≡ 0
        other k =
            sym (xor_zero_r (row_times n h x i))
            ∙ ap (bit_xor (row_times n h x i)) (sym (ap (product (product (h i c) v)) at_r ∙ product-zero (product (h i c) v)))
            ∙ sym (row_other n r c h x i k)
            ∙ s i l
