-- A column cleared row by row: some rows, and then all but the pivot's.
-- Assumes nothing.
use mathlib.Core.Path.{◌≡◌, refl, sym, ap, ap₂, ◌∙◌}
use mathlib.Core.Logic.{◌≢◌, ⊎_elim}
use mathlib.Core.List.{List, map}
use Prim.Native.Nat.{ℕ, ◌+◌, ◌-◌, ◌*◌, ◌<◌, ◌≤◌}
use native.Mathlib.Nat.{le_refl}
use native.Mathlib.Omega.{arith}
use lib.Dec.{eqb, ltb}
use lib.ListN.{length, take, drop}
use lib.Bits.{bit_xor, xor_zero_r}
use Rattle.lists.specs.Choice.{pick}
use Rattle.lists.specs.Entry.{nth}
use Rattle.lists.specs.Changed.{changed}
use Rattle.lists.proofs.Cases.{same_or_not, less_or_not}
use Rattle.lists.proofs.Choice.{pick_less, pick_not_less, pick_same, pick_other}
use Rattle.lists.proofs.Changed.{changed_at, changed_other}
use Rattle.lists.proofs.Values.{values_own, values_ext, values_at, map_entries}
use Rattle.field.specs.Field.{product, inverse}
use Rattle.field.proofs.Product.{zero-product}
use Rattle.elimination.specs.Matrix.{Matrix}
use Rattle.elimination.specs.Elimination.{scaled, cleared}
use Rattle.elimination.specs.Standing.{Holds, plus}
use Rattle.elimination.proofs.Columns.{holds_ext, row_is}
use Rattle.elimination.proofs.Cleared.{cleared_r, cleared_other}

-- a row to which 0 times another is added stays as it is
pub clear_already : (f : ℕ) (other : ℕ → ℕ) (row : List ℕ) → f ≡ 0 → row ≡ plus (length row) f other row
clear_already f other row z =
    sym (values_own 0 row)
    ∙ values_ext (length row) (nth row) (λ j. bit_xor (nth row j) (product f (other j))) 0
    (λ j _. sym (ap (λ (x : ℕ). bit_xor (nth row j) (product x (other j))) z ∙ ap (bit_xor (nth row j)) (zero-product (other j)) ∙ xor_zero_r (nth row j)))

-- ---- the rows below a number, but the pivot's

unfoldable pub rows_cleared : ℕ → ℕ → ℕ → Matrix → Matrix
rows_cleared to r c g a j = pick (ltb a to) (pick (eqb a r) (g a j) (bit_xor (g a j) (product (g a c) (g r j)))) (g a j)

module _ (r c : ℕ) (g : Matrix) where
  abbrev pub new : ℕ → ℕ → ℕ
  new a j = bit_xor (g a j) (product (g a c) (g r j))

  rows_after : (to a j : ℕ) → to ≤ a → rows_cleared to r c g a j ≡ g a j
  unfolding rows_cleared
  rows_after to a j h = pick_not_less a to (pick (eqb a r) (g a j) (new a j)) (g a j) h

  rows_in : (to a j : ℕ) → a < to → a ≢ r → rows_cleared to r c g a j ≡ new a j
  unfolding rows_cleared
  rows_in to a j h k = pick_less a to (pick (eqb a r) (g a j) (new a j)) (g a j) h ∙ pick_other a r (g a j) (new a j) k

  rows_own : (to a j : ℕ) → a ≡ r → rows_cleared to r c g a j ≡ g a j
  unfolding rows_cleared
  rows_own to a j e =
      ⊎_elim
      (λ h. pick_less a to (pick (eqb a r) (g a j) (new a j)) (g a j) h ∙ pick_same a r (g a j) (new a j) e)
      (λ h. rows_after to a j h)
      (less_or_not a to)

  -- a row other than i
  rows_same : (i a j : ℕ) → a ≢ i → rows_cleared i r c g a j ≡ rows_cleared (i + 1) r c g a j
  rows_same i a j d =
      ⊎_elim
      (λ e. rows_own i a j e ∙ sym (rows_own (i + 1) a j e))
      (λ k. ⊎_elim
      (λ h. rows_in i a j h k ∙ sym (rows_in (i + 1) a j (omega arith) k))
      (λ h. rows_after i a j h ∙ sym (rows_after (i + 1) a j (omega (arith, d))))
      (less_or_not a i))
      (same_or_not a r)

  module _ {m n : ℕ} {l : List ℕ} where
    pub rows_start : Holds m n g l → Holds m n (rows_cleared 0 r c g) l
    rows_start w = holds_ext w (λ a j _ _. sym (rows_after 0 a j (omega arith)))

    -- row i is next, and is the pivot's
    pub rows_skip : (i : ℕ) → i ≡ r → Holds m n (rows_cleared i r c g) l → Holds m n (rows_cleared (i + 1) r c g) l
    rows_skip i e w =
        holds_ext w (λ a j _ _. ⊎_elim (λ q. rows_own i a j (q ∙ e) ∙ sym (rows_own (i + 1) a j (q ∙ e))) (λ d. rows_same i a j d) (same_or_not a i))

    -- or is not
    pub rows_on : (i : ℕ) → i ≢ r → Holds m n (changed (rows_cleared i r c g) i (λ j. new i j)) l → Holds m n (rows_cleared (i + 1) r c g) l
    rows_on i apart w =
        holds_ext w
        (λ a j _ _. ⊎_elim
        (λ e. ap (λ (x : ℕ → ℕ). x j) (changed_at (rows_cleared i r c g) i (new i) a e) ∙ ap (λ (a : ℕ). new a j) (sym e) ∙ sym (rows_in (i + 1) a j (omega arith) (λ q. apart (sym e ∙ q))))
        (λ d. ap (λ (x : ℕ → ℕ). x j) (changed_other (rows_cleared i r c g) i (new i) a d) ∙ rows_same i a j d)
        (same_or_not a i))

    -- what row i becomes by the pivot's row
    pub row_new : (i : ℕ) (pivot row : List ℕ) → Holds m n (rows_cleared i r c g) l → i < m → n ≤ 256 → c < n → ((j : ℕ) → j < n → nth pivot j ≡ g r j)
        → let own = take (i * 256 + n - i * 256) (drop (i * 256) l) in row ≡ plus (length own) (nth own c) (nth pivot) own → length own ≡ n → (j : ℕ) → j < n → nth row j ≡ new i j
    row_new i pivot row w hi hn hc p e b j hj =
        let own = take (i * 256 + n - i * 256) (drop (i * 256) l) in
        ap (λ (x : List ℕ). nth x j) e
        ∙ values_at (λ j. bit_xor (nth own j) (product (nth own c) (nth pivot j))) (length own) j 0 (omega arith)
        ∙ ap₂ bit_xor (row_is i n w hi (le_refl n) j hj ∙ rows_after i i j (le_refl i)) (ap₂ product (row_is i n w hi (le_refl n) c hc ∙ rows_after i i c (le_refl i)) (p j hj))

-- ---- all rows but the pivot's, after that is scaled

module _ (m r c : ℕ) (g : Matrix) where
  abbrev first : Matrix
  first = changed g r (scaled r c g)

  first_r : (j : ℕ) → first r j ≡ scaled r c g j
  first_r j = ap (λ (x : ℕ → ℕ). x j) (changed_at g r (scaled r c g) r refl)

  first_other : (i j : ℕ) → i ≢ r → first i j ≡ g i j
  first_other i j k = ap (λ (x : ℕ → ℕ). x j) (changed_other g r (scaled r c g) i k)

  -- the pivot's row, scaled
  pub row_scaled : {n : ℕ} {l : List ℕ} (v : ℕ) (row : List ℕ) → Holds m n g l → r < m → v ≡ inverse (g r c)
      → let own = take (r * 256 + n - r * 256) (drop (r * 256) l) in row ≡ map (product v) own → length own ≡ n → (j : ℕ) → j < n → nth row j ≡ scaled r c g j
  row_scaled {n} {l} v row w hr z e b j hj =
      let own = take (r * 256 + n - r * 256) (drop (r * 256) l) in
      ap (λ (x : List ℕ). nth x j) (e ∙ map_entries (product v) 0 own)
      ∙ values_at (λ k. product v (nth own k)) (length own) j 0 (omega arith)
      ∙ ap₂ product z (row_is r n w hr (le_refl n) j hj)

  rows_cleared-cleared : (i j : ℕ) → i < m → rows_cleared m r c first i j ≡ cleared r c g i j
  rows_cleared-cleared i j h =
      ⊎_elim
      (λ e. rows_own r c first m i j e ∙ ap (λ (a : ℕ). first a j) e ∙ first_r j ∙ sym (ap (λ (a : ℕ). cleared r c g a j) e ∙ cleared_r r c g j))
      (λ k. rows_in r c first m i j h k ∙ ap₂ bit_xor (first_other i j k) (ap₂ product (first_other i c k) (first_r j)) ∙ sym (cleared_other r c g i j k))
      (same_or_not i r)

  pub rows_end : {n : ℕ} {l : List ℕ} (k : ℕ) → m ≤ k → k ≤ m → Holds m n (rows_cleared k r c (changed g r (scaled r c g))) l → Holds m n (cleared r c g) l
  rows_end k a b w =
      let q : k ≡ m = omega arith in
      holds_ext (rw q at w) (λ i j h _. rows_cleared-cleared i j h)
