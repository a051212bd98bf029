-- The unit words of a graph in a column order: the word with 1 at one information position and 0 at the others. At a pivot it has the table's entry, so its other
-- symbols that are not 0 are at pivots that come before its information position in the order.
-- Assumes nothing.
use Prim.Native.Nat.{ℕ, ◌%◌, ◌<◌}
use mathlib.Core.Path.{◌≡◌, refl, sym, ap, ◌∙◌}
use mathlib.Core.Logic.{◌≢◌, ◌⊎◌, inl, inr, ⊎_elim}
use mathlib.Core.List.{List}
use native.Mathlib.Nat.{mod-eq_of_lt}
use native.Mathlib.Omega.{arith}
use lib.Dec.{eqb, lit<}
use lib.ListN.{length}
use Rattle.lists.specs.Choice.{pick}
use Rattle.lists.specs.EachOnce.{EachOnce}
use Rattle.lists.specs.Entry.{nth}
use Rattle.lists.specs.Values.{values}
use Rattle.lists.proofs.Cases.{same_or_not}
use Rattle.lists.proofs.Choice.{pick_same, pick_other}
use Rattle.lists.proofs.Values.{values_at}
use Rattle.field.specs.Field.{product}
use Rattle.field.specs.FieldSum.{field_sum}
use Rattle.field.proofs.FieldSum.{sum_ext, sum_one}
use Rattle.field.proofs.Product.{one_product, product_comm, product-zero}
use Rattle.elimination.specs.Graph.{Graph, check_count}
use Rattle.elimination.specs.Matrix.{matrix_of}
use Rattle.elimination.specs.Elimination.{State, reduced}
use Rattle.elimination.proofs.Echelon.{Echelon, reduced_echelon, entry_blank}
use Rattle.elimination.proofs.Eliminated.{Eliminated}
use Rattle.elimination.proofs.Entries.{Small, Inside}
use Rattle.elimination.proofs.Infos.{info_or_pivot}
use Rattle.elimination.proofs.Reduced.{reduced_is}
use Rattle.words.specs.Encoding.{information_of, symbol, encoding}
use Rattle.words.specs.Word.{Word}
use Rattle.words.proofs.Encodings.{encoding_info, encoding_pivot, encoding_word}

-- a sum with a factor 1 at t and 0 elsewhere
pub sum_unit : (n t : ℕ) (f u : ℕ → ℕ) → t < n → f t < 32 → u t ≡ 1 → ((v : ℕ) → v < n → v ≢ t → u v ≡ 0) → field_sum n (λ v. product (f v) (u v)) ≡ f t
sum_unit n t f u h small one other =
    sum_ext n (λ v. product (f v) (u v)) (λ v. pick (eqb v t) (f v) 0)
    (λ v l. ⊎_elim
    (λ q. ap (product (f v)) (ap u q ∙ one) ∙ product_comm (f v) 1 ∙ one_product (f v) (rw q small) ∙ sym (pick_same v t (f v) 0 q))
    (λ q. ap (product (f v)) (other v l q) ∙ product-zero (f v) ∙ sym (pick_other v t (f v) 0 q))
    (same_or_not v t))
    ∙ sum_one n t f h

module _ (g : Graph) (order : List ℕ) where
  abbrev s : State
  s = reduced g order

  abbrev positions : List ℕ
  positions = information_of g order

  -- 1 at place t of the information symbols
  unfoldable pub unit_symbols : ℕ → List ℕ
  unit_symbols t = values (length positions) (λ v. pick (eqb v t) 1 0)

  unfoldable pub unit_word : ℕ → List ℕ
  unit_word t = encoding g order (unit_symbols t)

  symbol_own : (t : ℕ) → t < length positions → symbol (unit_symbols t) t ≡ 1
  unfolding unit_symbols
  symbol_own t h =
      ap (λ (a : ℕ). a % 32) (values_at (λ v. pick (eqb v t) 1 0) (length positions) t 0 h ∙ pick_same t t 1 0 refl) ∙ mod-eq_of_lt {m = 32} (lit< tt)

  symbol_other : (t v : ℕ) → v < length positions → v ≢ t → symbol (unit_symbols t) v ≡ 0
  unfolding unit_symbols
  symbol_other t v h d =
      ap (λ (a : ℕ). a % 32) (values_at (λ v. pick (eqb v t) 1 0) (length positions) v 0 h ∙ pick_other v t 1 0 d) ∙ mod-eq_of_lt {m = 32} (lit< tt)

  -- ---- its information symbols

  pub unit_own : (t : ℕ) → t < length (information_of g order) → nth (unit_word t) (nth (information_of g order) t) ≡ 1
  unfolding unit_word
  unit_own t h = encoding_info g order (unit_symbols t) t h ∙ symbol_own t h

  pub unit_info : (t v : ℕ) → v < length (information_of g order) → v ≢ t → nth (unit_word t) (nth (information_of g order) v) ≡ 0
  unfolding unit_word
  unit_info t v h d = encoding_info g order (unit_symbols t) v h ∙ symbol_other t v h d

  -- ---- of a graph with coefficients below 32, in an order that has each column once

  module _ (small : Small g) (each : EachOnce g.n (nth order)) where
    w : Eliminated (check_count g) g.n (nth order) (matrix_of g) g.n s
    w = reduced_is g order small each.inside

    e : Echelon (nth order) g.n s
    e = reduced_echelon g order small each.inside

    pub unit_pivot : (t i : ℕ) → t < length (information_of g order) → i < (reduced g order).rank
        → nth (unit_word t) ((reduced g order).pivot i) ≡ (reduced g order).matrix i (nth (information_of g order) t)
    unfolding unit_word
    unit_pivot t i h l =
        encoding_pivot g order small each (unit_symbols t) i l
        ∙ sum_unit (length positions) t (λ v. s.matrix i (nth positions v)) (symbol (unit_symbols t)) h (w.small i (nth positions t)) (symbol_own t h) (symbol_other t)

    -- past its information position the word is 0
    pub unit_after : (t a b : ℕ) → t < length (information_of g order) → nth order a ≡ nth (information_of g order) t → a < b → b < g.n → nth (unit_word t) (nth order b) ≡ 0
    unfolding information_of
    unit_after t a b h q ab bn = go (info_or_pivot g.n s (nth order b) (each.inside b bn))
      where
        go : ((i : ℕ) × (i < s.rank) × (s.pivot i ≡ nth order b)) ⊎ ((v : ℕ) × (v < length positions) × (nth positions v ≡ nth order b)) → nth (unit_word t) (nth order b) ≡ 0
        go (inl (i, l, z)) = ap (nth (unit_word t)) (sym z) ∙ unit_pivot t i h l ∙ ap (s.matrix i) (sym q) ∙ entry_blank w e each i a b l ab bn z
        go (inr (v, l, z)) =
            ap (nth (unit_word t)) (sym z)
            ∙ unit_info t v l
            (λ u. let same = each.distinct a b (omega arith) bn (q ∙ ap (nth positions) (sym u) ∙ z) in absurd (omega arith))

    pub Word-unit_word : Inside g → (t : ℕ) → Word g (unit_word t)
    unfolding unit_word
    Word-unit_word inside t = encoding_word g order small each inside (unit_symbols t)
