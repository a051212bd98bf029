-- The sum of a check is its matrix row times the word, so the words of a graph are the solutions of its matrix; and the test of all checks.
-- Assumes nothing.
use mathlib.Core.Path.{◌≡◌, refl, sym, ap, ◌∙◌}
use mathlib.Core.Logic.{⊎_elim, ◌↔◌}
use mathlib.Core.Bool.{Bool, true, not}
use mathlib.Core.List.{List, [], ◌∷◌, foldl}
use Prim.Native.Nat.{ℕ, suc, ◌<◌}
use native.Mathlib.Omega.{arith}
use borrow.Author.Tests.{eq-eqb, eqb-true, not-true, not-false}
use lib.Dec.{eqb}
use lib.Bits.{bit_xor, xor_zero_r}
use lib.ListN.{length, get_or}
use Rattle.lists.specs.AnyBelow.{any_below}
use Rattle.lists.specs.Choice.{pick}
use Rattle.lists.specs.Entry.{nth}
use Rattle.lists.proofs.AnyBelow.{any_below_not, any_below_none}
use Rattle.lists.proofs.Cases.{same_or_not}
use Rattle.lists.proofs.Choice.{pick_same, pick_other}
use Rattle.field.specs.Field.{product}
use Rattle.field.specs.FieldSum.{field_sum}
use Rattle.field.proofs.FieldSum.{sum_ext, sum_zero, sum_xor, sum_one}
use Rattle.field.proofs.Product.{xor_product, zero-product}
use Rattle.elimination.specs.Graph.{Edge, Graph, check_count, check}
use Rattle.elimination.specs.Matrix.{entry_turn, entry, matrix_of}
use Rattle.elimination.specs.Solutions.{row_times, Solves}
use Rattle.elimination.proofs.Entries.{Inside}
use Rattle.words.specs.Word.{sum_turn, check_sum, all_satisfied}

-- each check has the sum 0
abbrev pub Satisfied : Graph → List ℕ → Type 0
Satisfied g x = (c : ℕ) → c < check_count g → check_sum (check g c) x ≡ 0

module _ (n : ℕ) (x : List ℕ) where
  -- entries times symbols, summed over the positions
  abbrev times : (ℕ → ℕ) → ℕ
  times f = field_sum n (λ j. product (f j) (nth x j))

  -- an edge more
  times_turn : (f : ℕ → ℕ) (e : Edge) → e.0 < n → sum_turn x (times f) e ≡ times (λ j. entry_turn j (f j) e)
  times_turn f e h =
      ap (bit_xor (times f)) (sym (sum_one n e.0 (λ j. product e.1 (nth x j)) h))
      ∙ sym (sum_xor n (λ j. product (f j) (nth x j)) term)
      ∙ sum_ext n (λ j. bit_xor (product (f j) (nth x j)) (term j)) (λ j. product (entry_turn j (f j) e) (nth x j))
      (λ j l. ⊎_elim
      (λ q. ap (bit_xor (product (f j) (nth x j))) (pick_same j e.0 (product e.1 (nth x j)) 0 (sym q))
      ∙ sym (ap (λ (a : ℕ). product a (nth x j)) (pick_same e.0 j (bit_xor (f j) e.1) (f j) q) ∙ xor_product (f j) e.1 (nth x j)))
      (λ q. ap (bit_xor (product (f j) (nth x j))) (pick_other j e.0 (product e.1 (nth x j)) 0 (λ d. q (sym d)))
      ∙ xor_zero_r (product (f j) (nth x j))
      ∙ sym (ap (λ (a : ℕ). product a (nth x j)) (pick_other e.0 j (bit_xor (f j) e.1) (f j) q)))
      (same_or_not e.0 j))
    where
      term : ℕ → ℕ
      term j = pick (eqb j e.0) (product e.1 (nth x j)) 0

  fold_times : (es : List Edge) (f : ℕ → ℕ) → ((t : ℕ) → t < length es → (get_or es t (0, 0)).0 < n) → foldl (sum_turn x) (times f) es ≡ times (λ j. foldl (entry_turn j) (f j) es)
  fold_times [] f w = refl
  fold_times (e ∷ es) f w =
      ap (λ (s : ℕ). foldl (sum_turn x) s es) (times_turn f e (w 0 (omega arith))) ∙ fold_times es (λ j. entry_turn j (f j) e) (λ t l. w (suc t) (omega arith))

  pub sum_entries : (es : List Edge) → ((t : ℕ) → t < length es → (get_or es t (0, 0)).0 < n) → check_sum es x ≡ field_sum n (λ j. product (entry es j) (nth x j))
  unfolding check_sum entry
  sum_entries es w =
      ap (λ (s : ℕ). foldl (sum_turn x) s es) (sym (sum_zero n (λ j. product 0 (nth x j)) (λ j l. zero-product (nth x j)))) ∙ fold_times es (λ j. 0) w

pub check_row : (g : Graph) (x : List ℕ) → Inside g → (c : ℕ) → c < check_count g → check_sum (check g c) x ≡ row_times g.n (matrix_of g) (nth x) c
unfolding row_times matrix_of
check_row g x w c h = sum_entries g.n x (check g c) (λ t. w c t h)

pub satisfied_solves : (g : Graph) (x : List ℕ) → Inside g → Satisfied g x ↔ Solves (check_count g) g.n (matrix_of g) (nth x)
satisfied_solves g x w = (λ s c h. sym (check_row g x w c h) ∙ s c h, λ s c h. check_row g x w c h ∙ s c h)

module _ (g : Graph) (x : List ℕ) where
  -- check c is not satisfied
  abbrev fails : ℕ → Bool
  fails c = not (eqb (check_sum (check g c) x) 0)

  pub all_satisfied-true : (all_satisfied g x ≡ true) ↔ Satisfied g x
  unfolding all_satisfied
  all_satisfied-true = (
    λ e c h. eqb-true (check_sum (check g c) x) 0
        (not-false (eqb (check_sum (check g c) x) 0) (any_below_not (check_count g) c fails (not-true (any_below (check_count g) fails) e) h)),
    λ s. ap not (any_below_none (check_count g) fails (λ c h. ap not (eq-eqb (check_sum (check g c) x) 0 (s c h)))),
  )
