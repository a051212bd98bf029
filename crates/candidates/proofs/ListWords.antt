-- The word that list decoding finds: one of the candidates, each of which is a word with the likeliest value at every slot, or at the slot of an alternative the second
-- likeliest; and with no alternatives the encoding of the decisions.
-- Assumes nothing.
use Prim.Native.Nat.{ℕ, ◌+◌, ◌-◌, ◌%◌, ◌^◌, ◌<◌, ◌≤◌}
use mathlib.Core.Path.{◌≡◌, sym, ap, subst, ◌∙◌}
use mathlib.Core.Logic.{◌≢◌, inl, inr, ⊎_elim}
use mathlib.Core.List.{List}
use native.Mathlib.Nat.{mod-eq_of_lt}
use native.Mathlib.Omega.{arith}
use lib.Bits.{bit_xor, xor_comm, xor_zero_r}
use lib.Count.{count_trailing_zeros}
use lib.Ieee.{Float}
use lib.ListN.{length, set, replicate}
use lib.Pow.{pow_pos}
use Rattle.lists.specs.Entry.{nth}
use Rattle.lists.specs.Values.{values}
use Rattle.lists.proofs.Cases.{same_or_not}
use Rattle.lists.proofs.Values.{values_at, values_ext}
use Rattle.field.proofs.Sum.{xor_cancel}
use Rattle.elimination.specs.Graph.{Graph}
use Rattle.elimination.specs.Held.{held}
use Rattle.graph.specs.declared.Code.{Code}
use Rattle.graph.specs.Parts.{Parts}
use Rattle.lent.specs.Misencoded.{graph_in}
use Rattle.words.specs.Encoding.{information_of, encoding, info_symbols}
use Rattle.words.specs.Linear.{sum_of}
use Rattle.words.specs.Promise.{Words}
use Rattle.words.specs.Word.{Word}
use Rattle.words.proofs.Encodings.{encoding-length, encoding_info, info_at}
use Rattle.words.proofs.Sums.{sum_at, multiple_length}
use Rattle.vectors.specs.Decision.{decision}
use Rattle.vectors.specs.Vector.{vector}
use Rattle.vectors.proofs.LikeliestTwo.{two_small, likeliest_decision}
use Rattle.candidates.specs.Alternatives.{likeliest_at, second_at, difference_at, margin_at}
use Rattle.candidates.specs.Candidate as Candidate
use Rattle.candidates.specs.Choices as Choices
use Rattle.candidates.specs.ListWord.{unit_codeword, base_word, alternatives, slot_of, generator, list_word}
use Rattle.candidates.specs.Tried.{Tried, beginning, tried}
use Rattle.candidates.proofs.Slots.{least_inside, difference_small}
use Rattle.candidates.proofs.BestCandidate.{best}
use Rattle.candidates.proofs.Stepping.{trailing_below, tried_first, word_keeps}
use Rattle.candidates.proofs.Units.{multiple_same, multiple_other}

module _ (g : Graph) (order : List ℕ) (posteriors : List Float) where
  abbrev positions : List ℕ
  positions = information_of g order

  abbrev first : ℕ → ℕ
  first = likeliest_at posteriors (nth positions)

  abbrev second : ℕ → ℕ
  second = second_at posteriors (nth positions)

  abbrev difference : ℕ → ℕ
  difference = difference_at posteriors (nth positions)

  abbrev base : List ℕ
  base = base_word g order posteriors

  -- ---- the base and the two values

  pub base-length : length base ≡ g.n
  unfolding base_word
  base-length = encoding-length g order (values (length positions) first)

  pub base_at : (t : ℕ) → t < length positions → nth base (nth positions t) ≡ first t
  unfolding base_word
  base_at t h =
      encoding_info g order (values (length positions) first) t h ∙ ap (λ (a : ℕ). a % 32) (values_at first (length positions) t 0 h)
      ∙ mod-eq_of_lt (two_small (vector posteriors (nth positions t))).0

  -- by their difference the two likeliest values change places
  pub to_second : (t : ℕ) → bit_xor (first t) (difference t) ≡ second t
  to_second t = xor_cancel (first t) (second t)

  to_first : (t : ℕ) → bit_xor (second t) (difference t) ≡ first t
  to_first t = ap (bit_xor (second t)) (xor_comm (first t) (second t)) ∙ xor_cancel (second t) (first t)

  -- ---- no alternatives

  pub list_none : (metrics : List Float)
      → list_word g order posteriors metrics 0 ≡ encoding g order (values (length positions) (λ t. decision (vector posteriors (nth positions t))))
  unfolding list_word base_word beginning
  list_none metrics =
      let none : alternatives g order posteriors 0 ≡ 0 = omega arith in
      ap (λ (w : ℕ). (tried metrics (generator g order posteriors 0) base (2 ^ w - 1)).best) none
      ∙ ap (λ (s : Tried). s.best) (tried_first metrics (generator g order posteriors 0) base)
      ∙ ap (encoding g order)
      (values_ext (length positions) first (λ t. decision (vector posteriors (nth positions t))) 0 (λ t h. likeliest_decision (vector posteriors (nth positions t))))

  module _ (width : ℕ) where
    abbrev slot : ℕ → ℕ
    slot = slot_of g order posteriors width

    -- how many alternatives there are
    abbrev all : ℕ
    all = alternatives g order posteriors width

    -- what alternative j adds
    abbrev gens : ℕ → List ℕ
    gens = generator g order posteriors width

    -- each is as long as the base
    pub generator-length : (j : ℕ) → length (gens j) ≡ length base
    unfolding generator unit_codeword
    generator-length j =
        multiple_length (difference (slot j)) (unit_codeword g order (slot j)) ∙ encoding-length g order (set (replicate (length positions) 0) (slot j) 1) ∙ sym base-length

    pub slot_inside : (j : ℕ) → j < all → slot j < length positions
    unfolding slot_of
    slot_inside j h = least_inside (length positions) (margin_at posteriors (nth positions)) all j (omega arith) h

    -- ---- an alternative added to a word

    module _ (x : List ℕ) (j : ℕ) (few : j < all) (t : ℕ) (h : t < length positions) where
      sum_slot : nth (sum_of x (gens j)) (nth positions t) ≡ bit_xor (nth x (nth positions t)) (nth (gens j) (nth positions t))
      sum_slot = sum_at x (gens j) (nth positions t)

      -- at its slot the difference of the two likeliest values
      pub added_same : t ≡ slot j → nth (sum_of x (gens j)) (nth positions t) ≡ bit_xor (nth x (nth positions t)) (difference t)
      unfolding generator
      added_same e =
          sum_slot
          ∙ ap (bit_xor (nth x (nth positions t)))
          (multiple_same g order (slot j) (difference (slot j)) t (slot_inside j few) h (difference_small posteriors (nth positions) (slot j)) e ∙ ap difference (sym e))

      -- at no other
      pub added_other : t ≢ slot j → nth (sum_of x (gens j)) (nth positions t) ≡ nth x (nth positions t)
      unfolding generator
      added_other n =
          let a = nth x (nth positions t) in
          sum_slot ∙ ap (bit_xor a) (multiple_other g order (slot j) (difference (slot j)) t (slot_inside j few) h n) ∙ xor_zero_r a

    -- ---- information symbols

    -- which of the two likeliest values a word has
    abbrev OneOfTwo : ℕ → ℕ → Type 0
    OneOfTwo = Choices.OneOfTwo g order posteriors width

    -- of a word's information symbols
    abbrev Likely : List ℕ → Type 0
    Likely x = (t : ℕ) → t < length positions → OneOfTwo t (nth x (nth positions t))

    changed : (j t a : ℕ) → j < all → t ≡ slot j → OneOfTwo t a → OneOfTwo t (bit_xor a (difference t))
    changed j t a few e (inl q) = inr (ap (λ (y : ℕ). bit_xor y (difference t)) q ∙ to_second t, (j, few, sym e))
    changed j t a few e (inr q) = inl (ap (λ (y : ℕ). bit_xor y (difference t)) q.0 ∙ to_first t)

    sum_likely : (x : List ℕ) (j : ℕ) → Likely x → j < all → Likely (sum_of x (gens j))
    sum_likely x j w few t h =
        ⊎_elim
        (λ e. subst (OneOfTwo t) (sym (added_same x j few t h e)) (changed j t (nth x (nth positions t)) few e (w t h)))
        (λ n. subst (OneOfTwo t) (sym (added_other x j few t h n)) (w t h))
        (same_or_not t (slot j))

    -- ---- the candidates

    module _ (metrics : List Float) where
      abbrev candidate : ℕ → List ℕ
      candidate = Candidate.candidate g order posteriors width metrics

      candidate_likely : width ≤ 16 → (i : ℕ) → i < 2 ^ all → Likely (candidate i)
      candidate_likely few i h =
          word_keeps metrics gens base Likely i (λ t l. inl (base_at t l))
          (λ s l x w. sum_likely x (count_trailing_zeros 32 (s + 1)) w (trailing_below 32 all (s + 1) (omega arith) (omega arith) (omega arith)))

      pub candidate_symbols : width ≤ 16 → (i : ℕ) → i < 2 ^ all → (t : ℕ) → t < length positions
          → OneOfTwo t (nth (info_symbols g order (candidate i)) t)
      candidate_symbols few i h t l = subst (OneOfTwo t) (sym (info_at g order (candidate i) t l)) (candidate_likely few i h t l)

      pub list_candidate : (i : ℕ) × (i < 2 ^ all) × (list_word g order posteriors metrics width ≡ candidate i)
      unfolding list_word
      list_candidate =
          let r = best metrics gens base (2 ^ all - 1) in
          (r.place, omega (arith, r.inside, pow_pos all), r.word)

      pub list_symbols : width ≤ 16 → (t : ℕ) → t < length positions → OneOfTwo t (nth (info_symbols g order (list_word g order posteriors metrics width)) t)
      list_symbols few t l =
          let r = list_candidate in
          subst (λ (x : List ℕ). OneOfTwo t (nth (info_symbols g order x) t)) (sym r.2) (candidate_symbols few r.0 r.1 t l)

-- ---- of a code whose encodings are its words

module _ (c : Code) (p : Parts) (v : Words c p) (posteriors metrics : List Float) (width : ℕ) where
  abbrev tries : ℕ → List ℕ
  tries = candidate (graph_in c p) p.order posteriors width metrics

  pub candidate_word : (i : ℕ) → Word (graph_in c p) (tries i)
  unfolding base_word generator unit_codeword
  candidate_word i =
      word_keeps metrics (gens (graph_in c p) p.order posteriors width) (base (graph_in c p) p.order posteriors) (Word (graph_in c p)) i (v.encoded _)
      (λ s l x w. v.sums x (gens (graph_in c p) p.order posteriors width (count_trailing_zeros 32 (s + 1))) w (v.multiples _ _ (v.encoded _)))

  -- so it is the encoding of its information symbols
  pub candidate_encoding : (i : ℕ) → tries i ≡ encoding (graph_in c p) p.order (info_symbols (graph_in c p) p.order (tries i))
  unfolding held
  candidate_encoding i = let w = candidate_word i in (v.encodings (tries i) w.symbols).0 w

  pub Word-list_word : Word (graph_in c p) (list_word (graph_in c p) p.order posteriors metrics width)
  Word-list_word = let r = list_candidate (graph_in c p) p.order posteriors width metrics in subst (Word (graph_in c p)) (sym r.2) (candidate_word r.0)
