-- Where no two alternatives have one slot, each candidate by its number: the code's digit j says whether it has the likeliest value at alternative j's slot or the second
-- likeliest, and at all other slots it has the likeliest. So every such choice is tried.
-- Assumes nothing.
use Prim.Native.Nat.{ℕ, zero, suc, ◌/◌, ◌^◌, ◌<◌, ◌≤◌}
use mathlib.Core.Path.{◌≡◌, refl, sym, ap, subst, ◌∙◌}
use mathlib.Core.Logic.{◌≢◌, ⊎_elim}
use mathlib.Core.List.{List}
use native.Mathlib.Nat.{eq-or-lt_of_le, le_of_suc-le-suc, le_refl, not-suc-le-zero}
use native.Mathlib.Omega.{arith}
use lib.Bits.{bit_xor}
use lib.Ieee.{Float}
use lib.ListN.{length}
use Rattle.lists.specs.Entry.{nth}
use Rattle.lists.specs.InOrder.{place_of}
use Rattle.lists.specs.Ordered.{Ordered}
use Rattle.elimination.specs.Graph.{Graph}
use Rattle.words.specs.Encoding.{information_of}
use Rattle.words.proofs.Encodings.{info_at}
use Rattle.candidates.specs.Alternatives.{likeliest_at, second_at, difference_at, margin_at, before, least_sure}
use Rattle.candidates.specs.Candidate.{candidate}
use Rattle.candidates.specs.Choices as Choices
use Rattle.candidates.specs.Gray.{gray, digit, combination}
use Rattle.candidates.specs.ListWord.{base_word, alternatives, slot_of, generator}
use Rattle.candidates.proofs.GrayCode.{combination_start, combination_yes, combination_no, candidates_are, each_tried}
use Rattle.candidates.proofs.ListWords.{generator-length, base_at, slot_inside, added_same, added_other, to_second}
use Rattle.candidates.proofs.Stepping.{digit_cases}

module _ (g : Graph) (order : List ℕ) (posteriors : List Float) (width : ℕ) where
  abbrev positions : List ℕ
  positions = information_of g order

  abbrev all : ℕ
  all = alternatives g order posteriors width

  abbrev slot : ℕ → ℕ
  slot = slot_of g order posteriors width

  -- which of the two likeliest values a word has at each slot, by the digits of a number
  abbrev Chosen : ℕ → List ℕ → Type 0
  Chosen = Choices.Chosen g order posteriors width

  -- slots in the order of their margins are distinct
  pub slots_distinct : Ordered (length positions) (before (margin_at posteriors (nth positions))) all (least_sure (length positions) (margin_at posteriors (nth positions)) all)
      → (i j : ℕ) → i < all → j < all → slot i ≡ slot j → i ≡ j
  unfolding slot_of
  slots_distinct w i j h l e = sym (w.places i h) ∙ ap (place_of (length positions) (before (margin_at posteriors (nth positions)))) e ∙ w.places j l

  module _ (distinct : (i j : ℕ) → i < all → j < all → slot i ≡ slot j → i ≡ j) where
    abbrev gens : ℕ → List ℕ
    gens = generator g order posteriors width

    abbrev base : List ℕ
    base = base_word g order posteriors

    module _ (c : ℕ) where
      -- the first w alternatives as the digits of c say
      abbrev taken : ℕ → List ℕ
      taken w = combination gens base w c

      module _ (t : ℕ) (h : t < length positions) where
        -- the symbol at slot t
        abbrev at : List ℕ → ℕ
        at x = nth x (nth positions t)

        -- an alternative that has another slot
        passed : (w : ℕ) → w < all → t ≢ slot w → at (taken (suc w)) ≡ at (taken w)
        passed w b n =
            ⊎_elim
            (λ e. ap at (combination_no gens base w c e))
            (λ e. ap at (combination_yes gens base w c e) ∙ added_other g order posteriors width (taken w) w b t h n)
            (digit_cases (c / 2 ^ w))

        stays : (w : ℕ) → w ≤ all → ((j : ℕ) → j < w → slot j ≡ t → digit c j ≡ 0) → at (taken w) ≡ likeliest_at posteriors (nth positions) t
        stays zero b f = ap at (combination_start gens base c) ∙ base_at g order posteriors t h
        stays (suc w) b f =
            ⊎_elim
            (λ e. ap at (combination_no gens base w c e))
            (λ e. passed w b (λ q. omega (arith, e, f w (le_refl (suc w)) (sym q))))
            (digit_cases (c / 2 ^ w))
            ∙ stays w (omega arith) (λ j l. f j (omega arith))

        changes : (w j : ℕ) → w ≤ all → j < w → slot j ≡ t → digit c j ≡ 1 → at (taken w) ≡ second_at posteriors (nth positions) t
        changes zero j b l q y = absurd (not-suc-le-zero l)
        changes (suc w) j b l q y =
            ⊎_elim
            (λ e.
            ap at (combination_yes gens base w c (ap (digit c) (sym e) ∙ y))
            ∙ added_same g order posteriors width (taken w) w b t h (sym q ∙ ap slot e)
            ∙ ap (λ (a : ℕ). bit_xor a (difference_at posteriors (nth positions) t))
            (stays w (omega arith) (λ i r s. absurd (omega (arith, distinct i j (omega arith) (omega arith) (s ∙ sym q)))))
            ∙ to_second g order posteriors t)
            (λ k. passed w b (λ r. omega (arith, distinct j w (omega arith) b (q ∙ r))) ∙ changes w j (omega arith) k q y)
            (eq-or-lt_of_le (le_of_suc-le-suc l))

      combination_chosen : Chosen c (combination gens base all c)
      combination_chosen = record {
        second = λ j l y. let h = slot_inside g order posteriors width j l in info_at g order (taken all) (slot j) h ∙ changes (slot j) h all j (le_refl all) l refl y;
        first = λ t h f. info_at g order (taken all) t h ∙ stays t h all (le_refl all) f;
      }

    module _ (metrics : List Float) (few : width ≤ 16) where
      -- no alternative is longer than the base
      fit : (j : ℕ) → j < all → length (gens j) ≤ length base
      fit j h = omega (arith, generator-length g order posteriors width j)

      pub candidate_chosen : (i : ℕ) → i < 2 ^ all → Chosen (gray i) (candidate g order posteriors width metrics i)
      candidate_chosen i h = subst (Chosen (gray i)) (sym (candidates_are gens base metrics all (omega arith) fit i h)) (combination_chosen (gray i))

      pub each_chosen : (c : ℕ) → c < 2 ^ all → (i : ℕ) × (i < 2 ^ all) × Chosen c (candidate g order posteriors width metrics i)
      each_chosen c h =
          let r = each_tried gens base metrics all (omega arith) fit c h in
          (r.0, r.1, subst (Chosen c) (sym r.2) (combination_chosen c))
