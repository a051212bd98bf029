-- Elimination depends on the order below n only, and on the matrix in its m rows and n columns only.
-- Assumes nothing.
use mathlib.Core.Path.{◌≡◌, refl, sym, ap, ap₂, ◌∙◌}
use mathlib.Core.Logic.{◌≢◌, ◌⊎◌, inl, inr, ⊎_elim}
use mathlib.Core.Bool.{not}
use mathlib.Core.List.{List, map}
use Prim.Native.Nat.{ℕ, zero, suc, ◌-◌, ◌<◌, ◌≤◌}
use native.Mathlib.Omega.{arith}
use lib.Dec.{eqb}
use lib.Bits.{bit_xor}
use lib.ListN.{length}
use Rattle.lists.specs.Iter.{iter}
use Rattle.lists.specs.Among.{among}
use Rattle.lists.specs.Chain.{chain}
use Rattle.lists.specs.Changed.{changed}
use Rattle.lists.specs.Choice.{pick}
use Rattle.lists.specs.Entry.{nth}
use Rattle.lists.specs.Keep.{keep_below}
use Rattle.lists.specs.Lowest.{lowest}
use Rattle.lists.proofs.Cases.{same_or_not, less_or_not}
use Rattle.lists.proofs.Chain.{chain_ext}
use Rattle.lists.proofs.Choice.{pick_less, pick_not_less}
use Rattle.lists.proofs.Iter.{iter_ext}
use Rattle.lists.proofs.Lowest.{lowest_is, lowest_ext}
use Rattle.lists.proofs.Values.{values_ext, map_entries}
use Rattle.field.specs.Field.{product, inverse}
use Rattle.elimination.specs.Matrix.{Matrix}
use Rattle.elimination.specs.Elimination.{scaled, swapped, cleared, State, pivot_row, pivoted, column_turn, eliminated, infos, table}
use Rattle.elimination.proofs.Swapped.{swapped_r, swapped_p, swapped_other}
use Rattle.elimination.proofs.Infos.{info_inside}

pub eliminated_order : (m n : ℕ) (f g : ℕ → ℕ) (h : Matrix) → ((t : ℕ) → t < n → f t ≡ g t) → eliminated m f h n ≡ eliminated m g h n
unfolding eliminated
eliminated_order m n f g h e =
    iter_ext n (λ t s. column_turn m (f t) s) (λ t s. column_turn m (g t) s) (record { matrix = h; rank = 0; pivot = λ _. 0 }) (λ t l s. ap (λ (c : ℕ). column_turn m c s) (e t l))

-- two states with the same rank and pivots, and the same entries in m rows and n columns
pub record Alike (m n : ℕ) (s t : State) : Type 0 where
  pub rank : s.rank ≡ t.rank
  pub pivot : s.pivot ≡ t.pivot
  pub same : (i j : ℕ) → i < m → j < n → s.matrix i j ≡ t.matrix i j

-- ---- one column

module _ (m n : ℕ) (h g : Matrix) (e : (i j : ℕ) → i < m → j < n → h i j ≡ g i j) where
  swapped_ext : (r p : ℕ) → r < m → p < m → (i j : ℕ) → i < m → j < n → swapped r p h i j ≡ swapped r p g i j
  swapped_ext r p hr hp i j hi hj = go (same_or_not i r) (same_or_not i p)
    where
      at : {f k : ℕ → ℕ} → f ≡ k → f j ≡ k j
      at q = ap (λ (x : ℕ → ℕ). x j) q

      go : (i ≡ r) ⊎ (i ≢ r) → (i ≡ p) ⊎ (i ≢ p) → swapped r p h i j ≡ swapped r p g i j
      go (inl a) b = rw a (at (swapped_r r p h) ∙ e p j hp hj ∙ sym (at (swapped_r r p g)))
      go (inr a) (inl b) = rw b (at (swapped_p r p h) ∙ e r j hr hj ∙ sym (at (swapped_p r p g)))
      go (inr a) (inr b) = at (swapped_other r p h i a b) ∙ e i j hi hj ∙ sym (at (swapped_other r p g i a b))

  cleared_ext : (r c : ℕ) → r < m → c < n → (i j : ℕ) → i < m → j < n → cleared r c h i j ≡ cleared r c g i j
  unfolding cleared
  cleared_ext r c hr hc i j hi hj = ap₂ (pick (eqb i r)) row (ap₂ bit_xor (e i j hi hj) (ap₂ product (e i c hi hc) row))
    where
      row : scaled r c h j ≡ scaled r c g j
      row = ap₂ product (ap inverse (e r c hr hc)) (e r j hr hj)

module _ (m n c : ℕ) (s t : State) (hc : c < n) (w : Alike m n s t) where
  row_same : pivot_row m c s ≡ pivot_row m c t
  unfolding pivot_row
  row_same =
      lowest_ext (λ i. not (eqb (s.matrix i c) 0)) (λ i. not (eqb (t.matrix i c) 0)) (m - s.rank) s.rank
      (λ i a b. ap (λ (x : ℕ). not (eqb x 0)) (w.same i c (omega arith) hc))
      ∙ ap (λ (r : ℕ). lowest (λ i. not (eqb (t.matrix i c) 0)) (m - r) r) w.rank

  pivoted_alike : (p : ℕ) → s.rank < m → p < m → Alike m n (pivoted c p s) (pivoted c p t)
  unfolding pivoted
  pivoted_alike p hr hp = record {
    rank = ap suc w.rank;
    pivot = ap₂ (λ (f : ℕ → ℕ) (r : ℕ). changed f r c) w.pivot w.rank;
    same = λ i j a b.
        cleared_ext m n (swapped s.rank p s.matrix) (swapped s.rank p t.matrix) (swapped_ext m n s.matrix t.matrix w.same s.rank p hr hp) s.rank c hr hc i j a b
        ∙ ap (λ (r : ℕ). cleared r c (swapped r p t.matrix) i j) w.rank;
  }

  from : s.rank ≤ pivot_row m c s
  unfolding pivot_row
  from = (lowest_is (λ i. not (eqb (s.matrix i c) 0)) (m - s.rank) s.rank).from

  column_turn_alike : Alike m n (column_turn m c s) (column_turn m c t)
  unfolding column_turn
  column_turn_alike =
      ⊎_elim
      (λ l. rw (pick_less p m (pivoted c p s) s l, pick_less q m (pivoted c q t) t (rw row_same at l), ← row_same) (pivoted_alike p (omega (arith, from)) l))
      (λ l. rw (pick_not_less p m (pivoted c p s) s l, pick_not_less q m (pivoted c q t) t (rw row_same at l)) w)
      (less_or_not p m)
    where
      p : ℕ
      p = pivot_row m c s

      q : ℕ
      q = pivot_row m c t

-- ---- all columns

pub eliminated_alike : (m n : ℕ) (order : ℕ → ℕ) (h g : Matrix) → ((t : ℕ) → t < n → order t < n) → ((i j : ℕ) → i < m → j < n → h i j ≡ g i j)
    → (k : ℕ) → k ≤ n → Alike m n (eliminated m order h k) (eliminated m order g k)
unfolding eliminated iter
eliminated_alike m n order h g inside e zero l = record { rank = refl; pivot = refl; same = e }
eliminated_alike m n order h g inside e (suc k) l =
    column_turn_alike m n (order k) (eliminated m order h k) (eliminated m order g k) (inside k l) (eliminated_alike m n order h g inside e k (omega arith))

-- ---- the positions that are left, and the table

module _ {m n : ℕ} {s t : State} (w : Alike m n s t) where
  pub infos_alike : infos n s ≡ infos n t
  unfolding infos
  infos_alike = ap₂ (λ (r : ℕ) (f : ℕ → ℕ). keep_below (λ j. not (among r f j)) n) w.rank w.pivot

  row_alike : (i : ℕ) → i < m → map (s.matrix i) (infos n s) ≡ map (t.matrix i) (infos n s)
  row_alike i h =
      map_entries (s.matrix i) 0 (infos n s)
      ∙ values_ext (length (infos n s)) (λ k. s.matrix i (nth (infos n s) k)) (λ k. t.matrix i (nth (infos n s) k)) 0 (λ k l. w.same i (nth (infos n s) k) h (info_inside n s k l))
      ∙ sym (map_entries (t.matrix i) 0 (infos n s))

  pub table_alike : s.rank ≤ m → table n s ≡ table n t
  unfolding table
  table_alike h =
      chain_ext s.rank (λ i. map (s.matrix i) (infos n s)) (λ i. map (t.matrix i) (infos n s)) (λ i l. row_alike i (omega arith))
      ∙ ap₂ (λ (r : ℕ) (l : List ℕ). chain r (λ i. map (t.matrix i) l)) w.rank infos_alike
