-- What the rows of a reduced matrix say of a word: its symbol at each pivot is the sum over its information symbols, and nothing else.
-- Assumes nothing.
use mathlib.Core.Path.{◌≡◌, sym, ap, ap₂, ◌∙◌}
use mathlib.Core.Logic.{◌≢◌, ⊎_elim, ◌↔◌}
use mathlib.Core.Bool.{Bool, not}
use Prim.Native.Nat.{ℕ, ◌<◌, ◌≤◌}
use native.Mathlib.Omega.{arith}
use lib.Dec.{eqb}
use lib.Bits.{bit_xor, xor_zero_r, xor_self}
use Rattle.lists.specs.Among.{among}
use Rattle.lists.specs.Choice.{pick}
use Rattle.lists.specs.EachOnce.{EachOnce}
use Rattle.lists.specs.Entry.{nth}
use Rattle.lists.proofs.Among.{true-among, false-among, among_or_not}
use Rattle.lists.proofs.Cases.{same_or_not, less_or_not}
use Rattle.lists.proofs.Choice.{pick-true, pick-false, pick_same, pick_other}
use Rattle.lists.proofs.EachOnce.{each_once_has}
use Rattle.field.specs.Field.{product}
use Rattle.field.proofs.FieldSum.{sum_ext, sum_zero, sum_xor, sum_one, sum_keep}
use Rattle.field.proofs.Product.{one_product, zero-product}
use Rattle.field.proofs.Sum.{xor_equal}
use Rattle.elimination.specs.Matrix.{Matrix}
use Rattle.elimination.specs.Elimination.{State, infos}
use Rattle.elimination.specs.Solutions.{row_times, Solves}
use Rattle.elimination.proofs.Eliminated.{Eliminated}
use Rattle.elimination.proofs.Infos.{pivots_distinct}
use Rattle.words.specs.Encoding.{parity_symbol}

module _ {m n : ℕ} {order : ℕ → ℕ} {h : Matrix} {s : State} (w : Eliminated m n order h n s) (each : EachOnce n order) (x : ℕ → ℕ) (small : (j : ℕ) → j < n → x j < 32) where
  -- what row i gives its pivot
  abbrev given : ℕ → ℕ
  given i = parity_symbol s (infos n s) (λ t. x (nth (infos n s) t)) i

  -- a factor of the matrix that is 0
  vanishes : (i j : ℕ) → s.matrix i j ≡ 0 → product (s.matrix i j) (x j) ≡ 0
  vanishes i j e = ap (λ (a : ℕ). product a (x j)) e ∙ zero-product (x j)

  row_past : (i : ℕ) → s.rank ≤ i → i < m → row_times n s.matrix x i ≡ 0
  unfolding row_times
  row_past i a b =
      sum_zero n (λ j. product (s.matrix i j) (x j))
      (λ j l. let t = each_once_has n order each j l in vanishes i j (ap (s.matrix i) (sym t.2) ∙ w.past t.0 i t.1 a b))

  row_pivot : (i : ℕ) → i < s.rank → row_times n s.matrix x i ≡ bit_xor (x (s.pivot i)) (given i)
  unfolding row_times infos
  row_pivot i a =
      sum_ext n term (λ j. bit_xor (own j) (rest j)) (λ j l. ⊎_elim (at_pivot j l) (at_info j) (among_or_not s.rank s.pivot j))
      ∙ sum_xor n own rest
      ∙ ap₂ bit_xor (sum_one n (s.pivot i) x (w.inside i a)) (sym (sum_keep term test n))
    where
      test : ℕ → Bool
      test j = not (among s.rank s.pivot j)

      term : ℕ → ℕ
      term j = product (s.matrix i j) (x j)

      own : ℕ → ℕ
      own j = pick (eqb j (s.pivot i)) (x j) 0

      rest : ℕ → ℕ
      rest j = pick (test j) (term j) 0

      at_info : (j : ℕ) → ((l : ℕ) → l < s.rank → s.pivot l ≢ j) → term j ≡ bit_xor (own j) (rest j)
      at_info j f =
          sym (ap₂ bit_xor (pick_other j (s.pivot i) (x j) 0 (λ e. f i a (sym e))) (pick-true (test j) (term j) 0 (ap not (false-among s.rank s.pivot j f))))

      at_pivot : (j : ℕ) → j < n → ((l : ℕ) × (l < s.rank) × (s.pivot l ≡ j)) → term j ≡ bit_xor (own j) (rest j)
      at_pivot j b (l, c, e) =
          ⊎_elim mine other (same_or_not i l) ∙ sym (xor_zero_r (own j))
          ∙ ap (bit_xor (own j)) (sym (pick-false (test j) (term j) 0 (ap not (true-among s.rank s.pivot j l c e))))
        where
          mine : i ≡ l → term j ≡ own j
          mine q =
              let z : j ≡ s.pivot i = sym e ∙ ap s.pivot (sym q) in
              ap (λ (a : ℕ). product a (x j)) (ap (s.matrix i) z ∙ w.one i a) ∙ one_product (x j) (small j b) ∙ sym (pick_same j (s.pivot i) (x j) 0 z)

          other : i ≢ l → term j ≡ own j
          other q =
              vanishes i j (ap (s.matrix i) (sym e) ∙ w.unit l i c (omega (arith, w.rank_rows)) q)
              ∙ sym (pick_other j (s.pivot i) (x j) 0 (λ z. q (pivots_distinct w i l a c (sym z ∙ sym e))))

  pub solves_parity : Solves m n h x ↔ ((i : ℕ) → i < s.rank → x (s.pivot i) ≡ parity_symbol s (infos n s) (λ t. x (nth (infos n s) t)) i)
  solves_parity = (there, back)
    where
      there : Solves m n h x → (i : ℕ) → i < s.rank → x (s.pivot i) ≡ given i
      there y i a = xor_equal (x (s.pivot i)) (given i) (sym (row_pivot i a) ∙ (w.same x).1 y i (omega (arith, w.rank_rows)))

      back : ((i : ℕ) → i < s.rank → x (s.pivot i) ≡ given i) → Solves m n h x
      back y =
          (w.same x).0
          (λ i b. ⊎_elim (λ a. row_pivot i a ∙ ap (λ (v : ℕ). bit_xor v (given i)) (y i a) ∙ xor_self (given i)) (λ a. row_past i a b) (less_or_not i s.rank))
