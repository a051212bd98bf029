-- The promise holds: of every code, all metrics and priors, known counts and limits, at every rate and in every layout, and of all lent parts.
-- Assumes nothing.
use Prim.Native.Nat.{ℕ, ◌≤◌}
use mathlib.Core.Path.{◌≡◌, refl, sym, ap, ap₂, subst, ◌∙◌}
use mathlib.Core.Logic.{◌↔◌}
use mathlib.Core.List.{List, [], ◌∷◌}
use native.Mathlib.Omega.{arith}
use lib.IntN.{ℤ}
use lib.ListN.{length}
use Rattle.std.specs.Prelude.{Option, None, Result}
use Rattle.calls.specs.declared.Refusal.{Refusal}
use Rattle.calls.specs.Refusal.{first_of, misfit}
use Rattle.calls.specs.Parts.{written}
use Rattle.calls.proofs.Refusals.{by_ok}
use Rattle.graph.specs.declared.Code.{Code}
use Rattle.graph.specs.Parts.{Parts}
use Rattle.lent.specs.Held.{Held}
use Rattle.lent.specs.LentCode.{NotRefused, graph_of}
use Rattle.lent.proofs.NotRefused.{new_given}
use Rattle.lent.proofs.SoundCode.{not_refused}
use Rattle.words.specs.K.{k_of}
use Rattle.words.specs.Linear.{sum_of, multiple_of}
use Rattle.words.specs.Word.{Symbols}
use Rattle.words.proofs.Linear.{word_sum, word_multiple}
use Rattle.words.proofs.Sums.{sum_length, multiple_length}
use Rattle.words.proofs.Theorem.{words}
use Rattle.peeling.specs.Best.{last_of_equal}
use Rattle.peeling.specs.WithPeeledInfo.{code_in, parts_in, peeled_refusals, peeled_code, peeled_parts}
use Rattle.peeling.proofs.PeeledCode.{peeled_not_refused}
use Rattle.decoders.proofs.Theorem.{soft_propagates, hard_propagates}
use Rattle.decoders.proofs.ListTheorem as List
use Rattle.promise.specs.Calls.{new_answer, Fit, Encodes, OwnEncoding, Peels}
use Rattle.promise.specs.Promise.{Promised}
use Rattle.promise.proofs.Calls.{accepted_code, accepted_few, accepted_word, accepted_other}
use Rattle.promise.proofs.FrameFields.{frame_fields}
use Rattle.promise.proofs.OwnWords.{own_word, checked_word, one_graph}
use Rattle.promise.proofs.RateCodes.{one_rate}

-- ---- the encoder

module _ (l : Held) (word : List ℕ) (h pivots : ℕ) where
  encodes_sum : (u v x y : List ℕ) → Encodes l h pivots word u x → Encodes l h pivots word v y → Encodes l h pivots word (sum_of u v) (sum_of x y)
  encodes_sum u v x y a b =
      let few : length (sum_of u v) ≤ k_of l = omega (arith, accepted_few l h pivots word u a.accepts, accepted_few l h pivots word v b.accepts, sum_length u v) in
      subst (Encodes l h pivots word (sum_of u v))
      ((words l.code l.parts (accepted_code l h pivots word u a.accepts)).linear_sums u v
      ∙ ap₂ sum_of (sym (accepted_word l h pivots word u a.accepts) ∙ a.leaves) (sym (accepted_word l h pivots word v b.accepts) ∙ b.leaves))
      (accepted_other l h pivots word u a.accepts (sum_of u v) few)

  encodes_multiple : (f : ℕ) (u x : List ℕ) → Encodes l h pivots word u x → Encodes l h pivots word (multiple_of f u) (multiple_of f x)
  encodes_multiple f u x a =
      let few = accepted_few l h pivots word u a.accepts in
      subst (Encodes l h pivots word (multiple_of f u))
      ((words l.code l.parts (accepted_code l h pivots word u a.accepts)).linear_multiples f u ∙ ap (multiple_of f) (sym (accepted_word l h pivots word u a.accepts) ∙ a.leaves))
      (accepted_other l h pivots word u a.accepts (multiple_of f u) (omega (arith, few, multiple_length f u)))

-- ---- the code that peeling makes

module _ (l : Held) (h pivots : ℕ) (prefer : List ℤ) where
  abbrev made : Held
  made = record { code = peeled_code l.code l.parts prefer; parts = peeled_parts l.code l.parts prefer }

  abbrev tests : Option Refusal
  tests = first_of (peeled_refusals l.code l.parts prefer h pivots)

  module _ (d : Held) (a : Peels l h pivots prefer d) where
    passed : (tests ≡ None) × (d.code ≡ made.code)
    passed = by_ok tests made.code (sym a.accepts)

    left : d.parts ≡ made.parts
    left = sym a.leaves ∙ ap (λ (r : Result Code Refusal). written r l.parts made.parts) a.accepts

    -- the code that the call is given is not refused, nor is the one that it makes
    pub peels_not_refused : NotRefused l.code l.parts
    peels_not_refused = not_refused l.code l.parts h pivots (misfit ((length prefer, l.code.n) ∷ [])) passed.0

    pub made_not_refused : NotRefused d.code d.parts
    made_not_refused =
        subst (λ (c : Code). NotRefused c d.parts) (sym passed.1)
        (subst (NotRefused made.code) (sym left) (peeled_not_refused last_of_equal l.code l.parts prefer peels_not_refused))

    -- they have one graph
    pub made_graph : graph_of l ≡ graph_of d
    unfolding code_in parts_in
    made_graph = sym (ap₂ (λ (c : Code) (p : Parts). graph_of (record { code = c; parts = p })) passed.1 left)

    pub peeled_same : (word symbols : List ℕ) → Fit l.code.n word symbols h pivots → (x : List ℕ) → Symbols l.code.n x
        → OwnEncoding l h pivots word symbols x ↔ OwnEncoding d h pivots word symbols x
    peeled_same = one_graph l d peels_not_refused made_not_refused made_graph h pivots

pub promise : Promised
promise l metrics known limit likely width rate layout fallback prior word symbols bits tones posteriors h pivots vectors words bytes floats = record {
  built = λ n m seed degrees given work d b. new_given n m seed degrees given d.parts work (new_answer n m seed degrees given work) refl (sym b.leaves) d.code b.accepts;
  words = λ ok fit. own_word l ok word symbols h pivots fit;
  checks = λ ok fit. checked_word l ok word symbols h pivots fit;
  sums = word_sum (graph_of l);
  multiples = word_multiple (graph_of l);
  linear_sums = encodes_sum l word h pivots;
  linear_multiples = encodes_multiple l word h pivots;
  peeled = λ fit prefer d a. peeled_same l h pivots prefer d a word symbols fit;
  sets = λ s t w b p q d e a c. one_rate rate s t p q w b d e a c h pivots word symbols;
  list_words = λ a. (List.accepted l.code l.parts metrics likely width word h pivots a).is_word;
  soft_rounds = soft_propagates l.code l.parts metrics known limit word posteriors h pivots vectors;
  hard_rounds = hard_propagates l.code l.parts metrics known limit word h pivots vectors;
  frames = frame_fields rate layout fallback metrics prior bits (length posteriors) words bytes floats tones;
}
