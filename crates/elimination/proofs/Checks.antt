-- The check matrix in a part, edge by edge and check by check.
-- Assumes nothing.
use mathlib.Core.Path.{◌≡◌, sym, ap, ap₂, ◌∙◌}
use mathlib.Core.Logic.{◌≢◌, ⊎_elim}
use mathlib.Core.List.{List, [], ◌∷◌, ◌++◌, foldl, foldl-append}
use Prim.Native.Nat.{ℕ, ◌+◌, ◌-◌, ◌*◌, ◌<◌, ◌≤◌}
use native.Mathlib.Nat.{zero-add}
use native.Mathlib.Omega.{arith}
use lib.Dec.{ltb}
use lib.Bits.{bit_xor}
use lib.ListN.{length, set, replicate, take, drop}
use lib.Seq.{get_or-set_same, get_or-set_other}
use Rattle.lists.specs.Choice.{pick}
use Rattle.lists.specs.Changed.{changed}
use Rattle.lists.specs.Entry.{nth}
use Rattle.lists.specs.Values.{values}
use Rattle.lists.proofs.Cases.{same_or_not, less_or_not}
use Rattle.lists.proofs.Choice.{pick_same, pick_other, pick_less, pick_not_less}
use Rattle.lists.proofs.Changed.{changed_at, changed_other}
use Rattle.lists.proofs.ListSearch.{middle-length, middle_at}
use Rattle.lists.proofs.Values.{values_at, values_none, values_more, values_ext, values-replicate}
use Rattle.elimination.specs.Graph.{Edge}
use Rattle.elimination.specs.Matrix.{Matrix, entry_turn, entry, matrix_of}
use Rattle.elimination.specs.Held.{edges_in, held}
use Rattle.elimination.specs.Standing.{Holds}
use Rattle.elimination.proofs.Columns.{holds_ext}
use Rattle.elimination.proofs.Held.{held-check}

-- ---- the edges of a check

module _ (var coef : List ℕ) (from : ℕ) where
  abbrev edge : ℕ → Edge
  edge j = (nth var (from + j), nth coef (from + j))

  pub edges_none : edges_in var coef from from ≡ []
  edges_none = let z : from - from ≡ 0 = omega arith in ap (λ (k : ℕ). values k edge) z ∙ values_none edge

  pub edges_more : (e : ℕ) → from ≤ e → edges_in var coef from (e + 1) ≡ edges_in var coef from e ++ (nth var e, nth coef e) ∷ []
  edges_more e h =
      let k : (e + 1) - from ≡ (e - from) + 1 = omega arith in
      let z : from + (e - from) ≡ e = omega arith in
      ap (λ (k : ℕ). values k edge) k ∙ values_more edge (e - from) ∙ ap (λ (k : ℕ). edges_in var coef from e ++ (nth var k, nth coef k) ∷ []) z

  -- what stands at place j of a row, with the edges up to place e added to x
  abbrev pub summed : ℕ → ℕ → ℕ → ℕ
  summed x e j = foldl (entry_turn j) x (edges_in var coef from e)

  summed_more : (x e j : ℕ) → from ≤ e → summed x (e + 1) j ≡ entry_turn j (summed x e j) (nth var e, nth coef e)
  summed_more x e j h = ap (foldl (entry_turn j) x) (edges_more e h) ∙ foldl-append (entry_turn j) x (edges_in var coef from e) ((nth var e, nth coef e) ∷ [])

  pub check_start : (x j : ℕ) → x ≡ summed x from j
  check_start x j = sym (ap (foldl (entry_turn j) x) edges_none)

  pub check_on : (l : List ℕ) (x e j : ℕ) → from ≤ e → nth var e < length l → nth l j ≡ summed x e j
      → nth (set l (nth var e) (bit_xor (nth l (nth var e)) (nth coef e))) j ≡ summed x (e + 1) j
  check_on l x e j h b w =
      ⊎_elim
      (λ q. ap (nth (set l v y)) (sym q) ∙ get_or-set_same l v y 0 b ∙ ap (λ (k : ℕ). bit_xor (nth l k) (nth coef e)) q ∙ ap (λ (z : ℕ). bit_xor z (nth coef e)) w
      ∙ sym (pick_same v j (bit_xor (summed x e j) (nth coef e)) (summed x e j) q))
      (λ d. get_or-set_other l v j y 0 (omega (arith, d)) ∙ w ∙ sym (pick_other v j (bit_xor (summed x e j) (nth coef e)) (summed x e j) d))
      (same_or_not v j)
      ∙ sym (summed_more x e j h)
    where
      v : ℕ
      v = nth var e

      y : ℕ
      y = bit_xor (nth l v) (nth coef e)

-- the edges of a middle of the parts
pub edges_middle : (var coef : List ℕ) (from to : ℕ) → from ≤ to → to ≤ length var → let part = λ (l : List ℕ). take (to - from) (drop from l) in
    edges_in (part var) (part coef) 0 (length (part var)) ≡ edges_in var coef from to
edges_middle var coef from to h b =
    let part : List ℕ → List ℕ = λ l. take (to - from) (drop from l) in
    let n : length (part var) - 0 ≡ to - from = omega (arith, middle-length var from (to - from) (omega arith)) in
    let at : (l : List ℕ) (j : ℕ) → j < to - from → nth (part l) (0 + j) ≡ nth l (from + j) = λ l j k. ap (nth (part l)) (zero-add j) ∙ middle_at l from (to - from) j k in
    rw n
    (values_ext (to - from) (λ j. (nth (part var) (0 + j), nth (part coef) (0 + j))) (λ j. (nth var (from + j), nth coef (from + j))) (0, 0)
    (λ j k. ap₂ (λ (a b : ℕ). (a, b)) (at var j k) (at coef j k)))

-- ---- the checks one after another

module _ (m n : ℕ) (var coef row : List ℕ) where
  matrix_row : (i j : ℕ) → i < m → matrix_of (held n m var coef row) i j ≡ foldl (entry_turn j) 0 (edges_in var coef (nth row i) (nth row (i + 1)))
  unfolding matrix_of entry
  matrix_row i j h = ap (foldl (entry_turn j) 0) (held-check n m var coef row i h)

  -- the first i rows are there, the others are 0
  abbrev pub up_to : ℕ → Matrix
  up_to i a j = pick (ltb a i) (matrix_of (held n m var coef row) a j) 0

  module _ {w : ℕ} {l : List ℕ} where
    pub matrix_start : (k : ℕ) → k ≡ 65536 → l ≡ replicate k 0 → m ≤ 256 → w ≤ 256 → Holds m w (up_to 0) l
    matrix_start k q e hm hn = record {
      same = λ a j ha hj.
          ap (λ (x : List ℕ). nth x (a * 256 + j)) (e ∙ sym (values-replicate k 0)) ∙ values_at (λ _. 0) k (a * 256 + j) 0 (omega arith)
          ∙ sym (pick_not_less a 0 (matrix_of (held n m var coef row) a j) 0 (omega arith));
    }

    pub matrix_on : (i : ℕ) → Holds m w (changed (up_to i) i (λ j. summed var coef (nth row i) (up_to i i j) (nth row (i + 1)) j)) l → Holds m w (up_to (i + 1)) l
    matrix_on i p = holds_ext p (λ a j ha hj. ⊎_elim (own a j ha) (other a j) (same_or_not a i))
      where
        f : ℕ → ℕ
        f j = summed var coef (nth row i) (up_to i i j) (nth row (i + 1)) j

        own : (a j : ℕ) → a < m → a ≡ i → changed (up_to i) i f a j ≡ up_to (i + 1) a j
        own a j ha e =
            ap (λ (x : ℕ → ℕ). x j) (changed_at (up_to i) i f a e)
            ∙ ap (λ (s : ℕ). foldl (entry_turn j) s (edges_in var coef (nth row i) (nth row (i + 1)))) (pick_not_less i i (matrix_of (held n m var coef row) i j) 0 (omega arith))
            ∙ sym (matrix_row i j (omega arith)) ∙ ap (λ (a : ℕ). matrix_of (held n m var coef row) a j) (sym e)
            ∙ sym (pick_less a (i + 1) (matrix_of (held n m var coef row) a j) 0 (omega arith))

        other : (a j : ℕ) → a ≢ i → changed (up_to i) i f a j ≡ up_to (i + 1) a j
        other a j d =
            ap (λ (x : ℕ → ℕ). x j) (changed_other (up_to i) i f a d)
            ∙ ⊎_elim
            (λ h. pick_less a i (matrix_of (held n m var coef row) a j) 0 h ∙ sym (pick_less a (i + 1) (matrix_of (held n m var coef row) a j) 0 (omega arith)))
            (λ h. pick_not_less a i (matrix_of (held n m var coef row) a j) 0 h ∙ sym (pick_not_less a (i + 1) (matrix_of (held n m var coef row) a j) 0 (omega (arith, d))))
            (less_or_not a i)

    -- all of them, and so the first columns
    pub matrix_end : (i k : ℕ) → m ≤ i → k ≤ w → Holds m w (up_to i) l → Holds m k (matrix_of (held n m var coef row)) l
    matrix_end i k h b p = record { same = λ a j ha hj. p.same a j ha (omega arith) ∙ pick_less a i (matrix_of (held n m var coef row) a j) 0 (omega arith) }
