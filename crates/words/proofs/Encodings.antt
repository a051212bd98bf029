-- The encodings of a graph in a column order: their symbols at the information positions and at the pivots, and that they are the graph's words.
-- Assumes nothing.
use mathlib.Core.Path.{◌≡◌, sym, ap, ◌∙◌}
use mathlib.Core.Logic.{⊎_elim, ◌↔◌}
use mathlib.Core.List.{List}
use Prim.Native.Nat.{ℕ, ◌%◌, ◌<◌}
use native.Mathlib.Nat.{mod-eq_of_lt}
use native.Mathlib.Omega.{arith}
use lib.ListN.{length, replicate, length-replicate}
use lib.Seq.{ext_get_or}
use Rattle.lists.specs.EachOnce.{EachOnce}
use Rattle.lists.specs.Entry.{nth}
use Rattle.lists.specs.Placed.{placed}
use Rattle.lists.specs.Values.{values}
use Rattle.lists.proofs.Cases.{less_or_not}
use Rattle.lists.proofs.Placed.{placed-length, placed_other, placed_at}
use Rattle.lists.proofs.Values.{values-length, values_at, values_ext, map_entries}
use Rattle.field.specs.Field.{product}
use Rattle.field.proofs.FieldSum.{sum_ext, sum_lt}
use Rattle.field.proofs.Product.{mod32, product-lt}
use Rattle.elimination.specs.Graph.{Graph, check_count}
use Rattle.elimination.specs.Matrix.{matrix_of}
use Rattle.elimination.specs.Elimination.{State, reduced}
use Rattle.elimination.proofs.Eliminated.{Eliminated}
use Rattle.elimination.proofs.Entries.{Small, Inside}
use Rattle.elimination.proofs.Infos.{info_or_pivot, info_no_pivot, info_inside, infos_ascend, pivots_distinct}
use Rattle.elimination.proofs.Reduced.{reduced_is}
use Rattle.words.specs.Encoding.{information_of, symbol, parity_symbol, encoding, info_symbols}
use Rattle.words.specs.Word.{Symbols, Word}
use Rattle.words.proofs.CheckSums.{satisfied_solves}
use Rattle.words.proofs.Parity.{solves_parity}

module _ (g : Graph) (order : List ℕ) where
  abbrev s : State
  s = reduced g order

  abbrev positions : List ℕ
  positions = information_of g order

  -- the symbol that row i gives its pivot
  abbrev parity : (ℕ → ℕ) → ℕ → ℕ
  parity u i = parity_symbol s positions u i

  parity_ext : (u v : ℕ → ℕ) (i : ℕ) → ((t : ℕ) → t < length positions → u t ≡ v t) → parity u i ≡ parity v i
  parity_ext u v i e =
      sum_ext (length positions) (λ t. product (s.matrix i (nth positions t)) (u t)) (λ t. product (s.matrix i (nth positions t)) (v t))
      (λ t h. ap (product (s.matrix i (nth positions t))) (e t h))

  info_below : (t : ℕ) → t < length positions → nth positions t < g.n
  unfolding information_of
  info_below t h = info_inside g.n s t h

  -- ---- a list's information symbols

  pub info_values : (x : List ℕ) → info_symbols g order x ≡ values (length (information_of g order)) (λ t. nth x (nth (information_of g order) t))
  unfolding info_symbols
  info_values x = map_entries (nth x) 0 positions

  pub info_length : (x : List ℕ) → length (info_symbols g order x) ≡ length (information_of g order)
  info_length x = ap length (info_values x) ∙ values-length (λ t. nth x (nth positions t)) (length positions)

  pub info_at : (x : List ℕ) (t : ℕ) → t < length (information_of g order) → nth (info_symbols g order x) t ≡ nth x (nth (information_of g order) t)
  info_at x t h = ap (λ (l : List ℕ). nth l t) (info_values x) ∙ values_at (λ t. nth x (nth positions t)) (length positions) t 0 h

  -- ---- the symbols of an encoding

  module _ (syms : List ℕ) where
    -- what the pivots' symbols are placed in
    abbrev front : List ℕ
    front = placed (length positions) (nth positions) (symbol syms) (replicate g.n 0)

    front-length : length front ≡ g.n
    front-length = placed-length (nth positions) (symbol syms) (replicate g.n 0) (length positions) ∙ length-replicate g.n 0

    pub encoding-length : length (encoding g order syms) ≡ g.n
    unfolding encoding
    encoding-length = placed-length s.pivot (parity (symbol syms)) front s.rank ∙ front-length

    pub encoding_info : (t : ℕ) → t < length (information_of g order) → nth (encoding g order syms) (nth (information_of g order) t) ≡ symbol syms t
    unfolding encoding information_of
    encoding_info t h =
        placed_other s.pivot (parity (symbol syms)) front s.rank (nth positions t) (λ i a. info_no_pivot g.n s t i h a)
        ∙ placed_at (nth positions) (symbol syms) (replicate g.n 0) (length positions) t h
        (rw length-replicate (info_below t h))
        (λ i a e. ⊎_elim
        (λ l. absurd (omega (arith, infos_ascend g.n s i t l h)))
        (λ l. ⊎_elim (λ q. absurd (omega (arith, infos_ascend g.n s t i q a))) (λ q. omega arith) (less_or_not t i))
        (less_or_not i t))

    pub info_own : info_symbols g order (encoding g order syms) ≡ values (length (information_of g order)) (symbol syms)
    info_own =
        info_values (encoding g order syms)
        ∙ values_ext (length positions) (λ t. nth (encoding g order syms) (nth positions t)) (symbol syms) 0 encoding_info

  -- ---- of a graph with coefficients below 32, in an order that has each column once

  module _ (small : Small g) (each : EachOnce g.n (nth order)) where
    w : Eliminated (check_count g) g.n (nth order) (matrix_of g) g.n s
    w = reduced_is g order small each.inside

    module _ (syms : List ℕ) where
      pub encoding_pivot : (i : ℕ) → i < (reduced g order).rank → nth (encoding g order syms) ((reduced g order).pivot i) ≡ parity_symbol (reduced g order) (information_of g order) (symbol syms) i
      unfolding encoding
      encoding_pivot i a =
          placed_at s.pivot (parity (symbol syms)) (front syms) s.rank i a (omega (arith, w.inside i a, front-length syms)) (λ l b. pivots_distinct w l i b a)

      -- by these symbols it is known
      pub encoding_is : (x : List ℕ) → length x ≡ g.n → ((t : ℕ) → t < length (information_of g order) → nth x (nth (information_of g order) t) ≡ symbol syms t)
          → ((i : ℕ) → i < (reduced g order).rank → nth x ((reduced g order).pivot i) ≡ parity_symbol (reduced g order) (information_of g order) (symbol syms) i) → x ≡ encoding g order syms
      unfolding information_of
      encoding_is x long info pivot =
          ext_get_or 0 x (encoding g order syms) (long ∙ sym (encoding-length syms))
          (λ j l. ⊎_elim
          (λ c. ap (nth x) (sym c.2) ∙ pivot c.0 c.1 ∙ sym (encoding_pivot c.0 c.1) ∙ ap (nth (encoding g order syms)) c.2)
          (λ c. ap (nth x) (sym c.2) ∙ info c.0 c.1 ∙ sym (encoding_info syms c.0 c.1) ∙ ap (nth (encoding g order syms)) c.2)
          (info_or_pivot g.n s j (omega arith)))

      pub encoding_symbols : Symbols g.n (encoding g order syms)
      unfolding information_of
      encoding_symbols = record {
        long = encoding-length syms;
        small = λ j l. ⊎_elim
            (λ c. rw (← c.2, encoding_pivot c.0 c.1)
            (sum_lt (length positions) (λ t. product (s.matrix c.0 (nth positions t)) (symbol syms t)) (λ t h. product-lt (s.matrix c.0 (nth positions t)) (symbol syms t))))
            (λ c. rw (← c.2, encoding_info syms c.0 c.1) (mod32 (nth syms c.0)))
            (info_or_pivot g.n s j l);
      }

    -- ---- and whose checks have variables of the graph

    module _ (inside : Inside g) where
      pub encoding_word : (syms : List ℕ) → Word g (encoding g order syms)
      unfolding information_of
      encoding_word syms = record {
        symbols = encoding_symbols syms;
        satisfied = (satisfied_solves g x inside).1
            ((solves_parity w each (nth x) (encoding_symbols syms).small).1
            (λ i a. encoding_pivot syms i a ∙ parity_ext (symbol syms) (λ t. nth x (nth positions t)) i (λ t h. sym (encoding_info syms t h))));
      }
        where
          x : List ℕ
          x = encoding g order syms

      -- a word is the encoding of whatever symbols it has at the information positions
      pub word_encoding : (x syms : List ℕ) → Word g x → ((t : ℕ) → t < length (information_of g order) → nth x (nth (information_of g order) t) ≡ symbol syms t)
          → x ≡ encoding g order syms
      unfolding information_of
      word_encoding x syms y info =
          encoding_is syms x y.symbols.long info
          (λ i a. (solves_parity w each (nth x) y.symbols.small).0 ((satisfied_solves g x inside).0 y.satisfied) i a
          ∙ parity_ext (λ t. nth x (nth positions t)) (symbol syms) i info)

      pub words_encodings : (x : List ℕ) → Symbols g.n x → Word g x ↔ (x ≡ encoding g order (info_symbols g order x))
      words_encodings x y = (
        λ z. word_encoding x (info_symbols g order x) z
            (λ t h.
            let e = info_at x t h in
            let b = y.small (nth positions t) (info_below t h) in
            sym (ap (λ (a : ℕ). a % 32) e ∙ mod-eq_of_lt b)),
        λ e. rw e (encoding_word (info_symbols g order x)),
      )
