-- What is promised of list decoding holds: a call that no refusal turns down finds the best of the candidates, and a word of the code.
-- Assumes nothing.
use Prim.Native.Nat.{ℕ, ◌+◌, ◌-◌, ◌*◌, ◌^◌, ◌<◌, ◌≤◌}
use mathlib.Core.Path.{◌≡◌, sym, ap, subst, ◌∙◌}
use mathlib.Core.Bool.{Bool, true, false, true≢false, not}
use mathlib.Core.List.{List, [], ◌∷◌, ◌++◌}
use native.Mathlib.Omega.{arith}
use borrow.Author.Tests.{ltb-false}
use lib.Dec.{T, ltb}
use lib.Ieee.{Float, lt}
use lib.Ieee.Scale.{finite}
use lib.ListN.{length}
use lib.Pow.{pow_mono, pow_pos}
use Rattle.lists.specs.Entry.{nth}
use Rattle.lists.specs.Ordered.{Ordered}
use Rattle.lists.proofs.AnyBelow.{any_below_not}
use Rattle.lists.proofs.Cases.{neither}
use Rattle.std.specs.Prelude.{Option, None, Ok}
use Rattle.calls.specs.declared.Refusal.{Refusal}
use Rattle.calls.specs.declared.Refusal.TheVariants.{Value}
use Rattle.calls.specs.Refusal.{first_of, answered, misfit}
use Rattle.calls.specs.Parts.{written}
use Rattle.calls.proofs.Refusals as Refusals
use Rattle.elimination.specs.Graph.{Graph}
use Rattle.graph.specs.declared.Code.{Code}
use Rattle.graph.specs.Parts.{Parts}
use Rattle.lent.specs.Misencoded.{graph_in}
use Rattle.lent.specs.LentCode.{code_refusals}
use Rattle.lent.specs.Sound.{IsSound}
use Rattle.lent.proofs.SoundCode.{passed, not_refused}
use Rattle.words.specs.Encoding.{information_of, info_symbols}
use Rattle.words.specs.Word.{Word}
use Rattle.words.proofs.LentWords.{positions-length, positions_at, positions_inside}
use Rattle.words.proofs.Theorem.{words}
use Rattle.vectors.specs.Vector.{at, vector}
use Rattle.vectors.proofs.Stored.{vector-at}
use Rattle.candidates.specs.Alternatives.{margin_at, before, least_sure}
use Rattle.candidates.specs.Candidate.{candidate}
use Rattle.candidates.specs.Choices.{OneOfTwo}
use Rattle.candidates.specs.ListWord.{base_word, alternatives, generator, list_word}
use Rattle.candidates.specs.Tried.{tried}
use Rattle.candidates.proofs.BestCandidate.{best}
use Rattle.candidates.proofs.Choices.{slots_distinct, each_chosen}
use Rattle.candidates.proofs.LeastSure.{Ordered-least_sure}
use Rattle.candidates.proofs.ListWords.{candidate_encoding, list_symbols, list_none, Word-list_word}
use Rattle.decoders.specs.declared.Decoding.{Decoding}
use Rattle.decoders.specs.ListDecode.{list_lengths, not_finite, unlistable, ListDecoded, list_decode}
use Rattle.decoders.specs.ListDecodes as Specs

module _ (c : Code) (p : Parts) (metrics posteriors : List Float) (width : ℕ) (word : List ℕ) (matrix pivots : ℕ) where
  -- what the call gives, matrix and pivots being the lengths of the work parts
  abbrev d : ListDecoded
  d = list_decode c p metrics posteriors width word matrix pivots

  abbrev g : Graph
  g = graph_in c p

  abbrev order : List ℕ
  order = p.order

  abbrev positions : List ℕ
  positions = information_of g order

  -- how many alternatives there are, candidate i, and its running score
  abbrev all : ℕ
  all = alternatives g order posteriors width

  abbrev tries : ℕ → List ℕ
  tries = candidate g order posteriors width metrics

  abbrev scored : ℕ → Float
  scored i = (tried metrics (generator g order posteriors width) (base_word g order posteriors) i).score

  -- whether one of the call's own parts has a wrong length, and all tests
  abbrev rest : Bool
  rest = misfit (list_lengths c (length metrics) (length posteriors) (length word))

  abbrev own_tests : List (Bool × Refusal)
  own_tests = (unlistable posteriors width, Value) ∷ []

  abbrev number : Option Refusal
  number = first_of (code_refusals c p matrix pivots rest ++ own_tests)

  -- that no refusal turns it down, and what is then promised of it
  abbrev Passes : Type 0
  Passes = Specs.Passes c p metrics posteriors width word matrix pivots

  abbrev ListDecodes : Type 0
  ListDecodes = Specs.ListDecodes c p metrics posteriors width word matrix pivots

  -- ---- what the tests leave

  module _ (e : Passes) where
    pass_all : (first_of (code_refusals c p matrix pivots rest) ≡ None) × (first_of own_tests ≡ None)
    pass_all = Refusals.both_pass (code_refusals c p matrix pivots rest) own_tests e

    code : IsSound c p × (rest ≡ false)
    code = passed c p matrix pivots rest pass_all.0

    own : (ltb 16 width ≡ false) × (not_finite posteriors ≡ false)
    own = neither (ltb 16 width) (not_finite posteriors) (Refusals.pass (unlistable posteriors width) Value [] pass_all.1).0

    narrow : width ≤ 16
    narrow = ltb-false 16 width own.0

    long : length posteriors ≡ c.n * 32
    long = (Refusals.alike (list_lengths c (length metrics) (length posteriors) (length word)) false code.1).0.1.0

    all_finite : (i : ℕ) → i < length posteriors → T (finite (at posteriors i))
    unfolding not_finite
    all_finite i h = finite_is (finite (at posteriors i)) (any_below_not (length posteriors) i (λ j. not (finite (at posteriors j))) own.1 h)
      where
        finite_is : (b : Bool) → not b ≡ false → T b
        finite_is true q = tt
        finite_is false q = absurd (true≢false q)

    slot_finite : (t : ℕ) → t < length positions → (x : ℕ) → x < 32 → T (finite (at (vector posteriors (nth positions t)) x))
    slot_finite t h x l =
        let k = positions-length c p code.0 in
        let i = positions_inside c p code.0 t (omega (arith, k)) in
        let q = positions_at c p code.0 t (omega (arith, k)) in
        subst (λ (y : Float). T (finite y)) (sym (vector-at posteriors (nth positions t) x l)) (all_finite (nth positions t * 32 + x) (omega (arith, long, i, q)))

    slots : Ordered (length positions) (before (margin_at posteriors (nth positions))) all (least_sure (length positions) (margin_at posteriors (nth positions)) all)
    slots = Ordered-least_sure posteriors (nth positions) (length positions) all (omega arith) slot_finite

    found : d.word ≡ list_word g order posteriors metrics width
    unfolding list_decode
    found = ap (λ (t : Option Refusal). written {A = Unit {0}} (answered t tt) word (list_word g order posteriors metrics width)) e

    answer_is : d.answer ≡ record { answer = Ok tt; rounds = 0 }
    unfolding list_decode
    answer_is = ap (λ (t : Option Refusal). record { answer = answered t tt; rounds = 0 }) e

    pub list_decodes : ListDecodes
    unfolding list_word
    list_decodes =
        let b = best metrics (generator g order posteriors width) (base_word g order posteriors) (2 ^ all - 1) in
        let w = words c p (not_refused c p matrix pivots rest pass_all.0) in
        let s = slots_distinct g order posteriors width slots in
        record {
          accepts = ap (λ (a : Decoding). a.answer) answer_is;
          no_rounds = ap (λ (a : Decoding). a.rounds) answer_is;
          is_word = subst (Word g) (sym found) (Word-list_word c p w posteriors metrics width);
          few = pow_mono (omega arith);
          place = b.place;
          inside = omega (arith, b.inside, pow_pos all);
          candidate_is = found ∙ b.word;
          most = λ i h. ap (λ (x : Float). lt x (scored i)) (sym b.score) ∙ b.most i (omega arith);
          encodings = candidate_encoding c p w posteriors metrics width;
          symbols = λ t h. subst (λ (x : List ℕ). OneOfTwo g order posteriors width t (nth (info_symbols g order x) t)) (sym found) (list_symbols g order posteriors width metrics narrow t h);
          ordered = slots;
          choices = each_chosen g order posteriors width s metrics narrow;
          none = λ z. found ∙ ap (list_word g order posteriors metrics) z ∙ list_none g order posteriors metrics;
        }

  -- every call that accepts passes the tests
  pub accepted_passes : d.answer.answer ≡ Ok tt → Passes
  unfolding list_decode
  accepted_passes z = (Refusals.by_ok number tt (sym z)).0

  pub accepted : d.answer.answer ≡ Ok tt → ListDecodes
  accepted z = list_decodes (accepted_passes z)
