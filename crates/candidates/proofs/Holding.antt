-- The word that list decoding finds by the parts of a lent code that is not refused is that of its graph and order.
-- Assumes nothing.
use Prim.Native.Nat.{ℕ, ◌+◌, ◌-◌, ◌*◌, ◌^◌, ◌<◌, ◌≤◌, min}
use mathlib.Core.Path.{◌≡◌, sym, ap, ◌∙◌}
use mathlib.Core.Logic.{⊎_elim}
use mathlib.Core.List.{List}
use native.Mathlib.Omega.{arith}
use lib.Dec.{eqb}
use lib.Ieee.{Float}
use lib.ListN.{length, set, replicate, length-set, length-replicate}
use lib.Pow.{pow_pos}
use lib.Seq.{get_or-set_same, get_or-set_other}
use Rattle.lists.specs.Choice.{pick}
use Rattle.lists.specs.Entry.{nth}
use Rattle.lists.specs.Values.{values}
use Rattle.lists.proofs.Blank.{blank_at}
use Rattle.lists.proofs.Cases.{same_or_not, less_or_not}
use Rattle.lists.proofs.Choice.{pick_same, pick_other}
use Rattle.lists.proofs.Values.{values-length, values_ext}
use Rattle.lists.proofs.Placed.{placed-length, placed_other, placed_at}
use Rattle.field.specs.Field.{product}
use Rattle.field.proofs.FieldSum.{sum_ext, sum_one}
use Rattle.field.proofs.Product.{product_comm, product-zero}
use Rattle.elimination.specs.Graph.{Graph}
use Rattle.elimination.specs.Held.{held}
use Rattle.elimination.proofs.Infos.{info_no_pivot, infos_ascend, pivots_distinct}
use Rattle.graph.specs.declared.Code.{Code}
use Rattle.graph.specs.Parts.{Parts}
use Rattle.lent.specs.Misencoded.{graph_in, reduced_in}
use Rattle.lent.specs.Sound.{IsSound}
use Rattle.lent.proofs.Encoded.{formed_small, formed_inside}
use Rattle.lent.proofs.SoundCode.{sound_eliminated}
use Rattle.words.specs.Encoding.{information_of, symbol, parity_symbol, encoding}
use Rattle.words.specs.Linear.{multiple_of}
use Rattle.words.proofs.Encodings.{encoding_is}
use Rattle.words.proofs.LentWords.{positions-length, positions_at, positions_inside, parity_inside, factor_at, encoded_is}
use Rattle.words.proofs.Linear.{encoding_multiple}
use Rattle.candidates.specs.Alternatives.{likeliest_at, difference_at, margin_at, least_sure}
use Rattle.candidates.specs.GeneratorRows.{column}
use Rattle.candidates.specs.HeldWord.{held_base, held_slots, held_generator, held_word}
use Rattle.candidates.specs.ListWord.{unit_codeword, base_word, slot_of, generator, list_word}
use Rattle.candidates.specs.Tried.{Tried, tried}
use Rattle.candidates.proofs.ListWords.{slot_inside}
use Rattle.candidates.proofs.Slots.{least_ext, difference_small}
use Rattle.candidates.proofs.Stepping.{tried_ext}
use Rattle.candidates.proofs.Units.{unit_same, unit_other, unit_multiple}

module _ (c : Code) (p : Parts) (w : IsSound c p) where
  abbrev g : Graph
  g = graph_in c p

  abbrev positions : List ℕ
  positions = information_of (graph_in c p) p.order

  -- how many information positions there are
  abbrev count : ℕ
  count = c.n - c.rank

  positions_distinct : (s t : ℕ) → s < count → t < count → nth positions s ≡ nth positions t → s ≡ t
  unfolding information_of held
  positions_distinct s t h l e =
      let long = positions-length c p w in
      ⊎_elim
      (λ b. absurd (omega (arith, infos_ascend c.n (reduced_in c p) s t b (omega arith))))
      (λ b. ⊎_elim (λ q. absurd (omega (arith, infos_ascend c.n (reduced_in c p) t s q (omega arith)))) (λ q. omega arith) (less_or_not t s))
      (less_or_not s t)

  -- ---- a column of the table

  module _ (s d : ℕ) (inside : s < count) (small : d < 32) where
    -- the row with its information symbol
    abbrev front : List ℕ
    front = set (replicate c.n 0) (nth p.info s) d

    -- the parity symbols
    abbrev parities : ℕ → ℕ
    parities i = product d (nth p.a (i * count + s))

    -- d at slot s
    abbrev one : List ℕ
    one = set (replicate (length positions) 0) s d

    long : length positions ≡ count
    long = positions-length c p w

    slot : s < length positions
    slot = omega (arith, long)

    front_length : length front ≡ c.n
    front_length = length-set (replicate c.n 0) (nth p.info s) d ∙ length-replicate c.n 0

    front_at : (t : ℕ) → t < count → nth front (nth positions t) ≡ symbol one t
    front_at t h =
        ⊎_elim
        (λ e.
        ap (nth front) (ap (nth positions) e ∙ sym (positions_at c p w s inside))
        ∙ get_or-set_same (replicate c.n 0) (nth p.info s) d 0 (omega (arith, length-replicate {A = ℕ} c.n 0, positions_inside c p w s inside))
        ∙ sym (unit_same (length positions) s d small slot t e))
        (λ n.
        get_or-set_other (replicate c.n 0) (nth p.info s) (nth positions t) d 0 (λ e. n (positions_distinct t s h inside (e ∙ positions_at c p w s inside)))
        ∙ blank_at c.n (nth positions t) 0 ∙ sym (unit_other (length positions) s d small slot t n))
        (same_or_not t s)

    column_info : (t : ℕ) → t < length positions → nth (column c.n c.rank count p.parity p.info p.a s d) (nth positions t) ≡ symbol one t
    unfolding column information_of held
    column_info t h =
        let r = w.encoded.rank in
        placed_other (nth p.parity) parities front c.rank (nth positions t)
        (λ i a e. info_no_pivot c.n (reduced_in c p) t i h (omega arith) (sym (w.encoded.parity i a) ∙ e))
        ∙ front_at t (omega (arith, long))

    -- the only term of the sum is that of slot s
    sum_slot : (i : ℕ) → product ((reduced_in c p).matrix i (nth positions s)) d ≡ parity_symbol (reduced_in c p) positions (symbol one) i
    sum_slot i =
        let f : ℕ → ℕ = λ t. (reduced_in c p).matrix i (nth positions t) in
        sym (sum_one (length positions) s (λ t. product (f t) d) slot)
        ∙ sum_ext (length positions) (λ t. pick (eqb t s) (product (f t) d) 0) (λ t. product (f t) (symbol one t))
        (λ t l. ⊎_elim
        (λ e. pick_same t s (product (f t) d) 0 e ∙ ap (product (f t)) (sym (unit_same (length positions) s d small slot t e)))
        (λ n. pick_other t s (product (f t) d) 0 n ∙ sym (ap (product (f t)) (unit_other (length positions) s d small slot t n) ∙ product-zero (f t)))
        (same_or_not t s))

    column_pivot : (i : ℕ) → i < (reduced_in c p).rank
        → nth (column c.n c.rank count p.parity p.info p.a s d) ((reduced_in c p).pivot i) ≡ parity_symbol (reduced_in c p) positions (symbol one) i
    unfolding column
    column_pivot i h =
        let r = w.encoded.rank in
        let a : i < c.rank = omega arith in
        let e = w.encoded.parity i a in
        ap (nth (column c.n c.rank count p.parity p.info p.a s d)) (sym e)
        ∙ placed_at (nth p.parity) parities front c.rank i a (omega (arith, front_length, parity_inside c p w i a))
        (λ l b q. pivots_distinct (sound_eliminated c p w) l i (omega arith) h (sym (w.encoded.parity l b) ∙ q ∙ e))
        ∙ ap (product d) (factor_at c p w i s a inside)
        ∙ product_comm d ((reduced_in c p).matrix i (nth positions s))
        ∙ sum_slot i

    column_is : column c.n c.rank count p.parity p.info p.a s d ≡ multiple_of d (unit_codeword g p.order s)
    unfolding unit_codeword held column
    column_is =
        encoding_is g p.order (formed_small c p w.formed) w.formed.order one (column c.n c.rank count p.parity p.info p.a s d)
        (placed-length (nth p.parity) parities front c.rank ∙ front_length) column_info column_pivot
        ∙ ap (encoding g p.order) (sym (unit_multiple (length positions) s d small slot))
        ∙ encoding_multiple g p.order (formed_small c p w.formed) w.formed.order (formed_inside c p w.formed) d (set (replicate (length positions) 0) s 1)

  -- ---- base, slots and generators

  module _ (posteriors : List Float) where
    base_is : held_base c.n c.rank p.parity p.info p.a posteriors ≡ base_word g p.order posteriors
    unfolding held_base base_word
    base_is =
        let f = likeliest_at posteriors (nth p.info) in
        let h = likeliest_at posteriors (nth positions) in
        encoded_is c p w (values count f) (omega (arith, values-length f count))
        ∙ ap (encoding g p.order)
        (values_ext count f h 0 (λ t l. ap (λ (q : ℕ). likeliest_at posteriors (λ _. q) t) (positions_at c p w t l))
        ∙ ap (λ (k : ℕ). values k h) (sym (positions-length c p w)))

    module _ (width : ℕ) where
      slots_are : held_slots c.n c.rank p.parity p.info p.a posteriors width
          ≡ least_sure (length positions) (margin_at posteriors (nth positions)) (min width (length positions))
      unfolding held_slots
      slots_are =
          least_ext count (margin_at posteriors (nth p.info)) (margin_at posteriors (nth positions)) (min width count)
          (λ t l. ap (λ (q : ℕ). margin_at posteriors (λ _. q) t) (positions_at c p w t l))
          ∙ ap (λ (k : ℕ). least_sure k (margin_at posteriors (nth positions)) (min width k)) (sym (positions-length c p w))

      generator_is : (j : ℕ) → j < min width count
          → held_generator c.n c.rank p.parity p.info p.a posteriors width j ≡ generator g p.order posteriors width j
      unfolding held_generator generator slot_of
      generator_is j h =
          let s = slot_of g p.order posteriors width j in
          let k = positions-length c p w in
          let b : s < count = omega (arith, slot_inside g p.order posteriors width j (omega arith)) in
          ap (λ (l : List ℕ). column c.n c.rank count p.parity p.info p.a (nth l j) (difference_at posteriors (nth p.info) (nth l j))) slots_are
          ∙ ap (λ (q : ℕ). column c.n c.rank count p.parity p.info p.a s (difference_at posteriors (λ _. q) s)) (positions_at c p w s b)
          ∙ column_is s (difference_at posteriors (nth positions) s) b (difference_small posteriors (nth positions) s)

  pub held_word-list_word : (posteriors metrics : List Float) (width : ℕ) → width ≤ 16
      → held_word c.n c.rank p.parity p.info p.a posteriors metrics width ≡ list_word (graph_in c p) p.order posteriors metrics width
  unfolding held_word list_word
  held_word-list_word posteriors metrics width h =
      let k = min width count in
      let gens = held_generator c.n c.rank p.parity p.info p.a posteriors width in
      let gens' = generator g p.order posteriors width in
      let base = base_word g p.order posteriors in
      ap (λ (t : Tried). t.best)
      (ap (λ (b : List ℕ). tried metrics gens b (2 ^ k - 1)) (base_is posteriors)
      ∙ tried_ext metrics gens gens' base k (2 ^ k - 1) (omega arith) (omega (arith, pow_pos k)) (generator_is posteriors width)
      ∙ ap (λ (m : ℕ). tried metrics gens' base (2 ^ min width m - 1)) (sym (positions-length c p w)))
