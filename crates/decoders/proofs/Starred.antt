-- Document 01's starred values of belief propagation: "n = 1, m = 1, degree 1, metrics all 0.0, one round: word 0. Zero rounds, same code: 10", of every such code that
-- is not refused, and of the one that `new` builds from any seed.
-- Assumes nothing.
use Prim.Native.Nat.{ℕ, zero, suc, ◌+◌, ◌-◌, ◌<◌, ◌≤◌}
use mathlib.Core.Path.{◌≡◌, refl, sym, ap, ap₂, subst, ◌∙◌}
use mathlib.Core.Bool.{true, false, and-false, ◌&&◌}
use mathlib.Core.List.{List, [], ◌∷◌, foldl}
use mathlib.Core.Logic.{◌≢◌, ⊎_elim}
use native.Mathlib.Omega.{arith}
use borrow.Author.Tests.{le-ltb, lt-ltb}
use lib.Bits.{bit_xor}
use lib.Dec.{ltb}
use lib.Ieee.{Float, binary32, round, add, sub, mul, div, lt, le, of_bits, neg, nan}
use lib.ListN.{length, set, replicate, get_or-replicate}
use Rattle.lists.specs.AnyBelow.{any_below}
use Rattle.lists.specs.Choice.{pick}
use Rattle.lists.specs.Entry.{nth}
use Rattle.lists.specs.Iter.{iter}
use Rattle.lists.specs.Lowest.{lowest}
use Rattle.lists.specs.Total.{total}
use Rattle.lists.specs.Values.{values}
use Rattle.lists.specs.While.{while}
use Rattle.lists.proofs.Cases.{true_or_false}
use Rattle.lists.proofs.Choice.{pick-true, pick-false}
use Rattle.lists.proofs.Values.{values_ext}
use Rattle.field.specs.Field.{product}
use Rattle.field.proofs.Product.{product-zero, product-lt, no_zero_divisors}
use Rattle.vectors.specs.Float32.{zero32, one32, tiny32}
use Rattle.vectors.specs.Vector.{Vector, at, vector, entry_product}
use Rattle.vectors.specs.Channel.{greatest, likelihood, channel}
use Rattle.vectors.specs.Exp.{reduced, exp}
use Rattle.vectors.specs.Wht.{butterflies, wht}
use Rattle.vectors.specs.Multiplied.{raised, read_back}
use Rattle.vectors.specs.Normalized.{entry_sum, scaled, normalized}
use Rattle.vectors.specs.Decision.{decision}
use Rattle.vectors.specs.KnownZero.{known_zero}
use Rattle.elimination.specs.Graph.{Edge, Graph, check}
use Rattle.std.specs.Prelude.{Ok, Err}
use Rattle.calls.specs.declared.Refusal.TheVariants.{NoWord}
use Rattle.graph.specs.declared.Code.{Code}
use Rattle.graph.specs.Buildable.{Buildable}
use Rattle.graph.specs.Built.{built}
use Rattle.graph.specs.Descending.{descending}
use Rattle.graph.specs.New.{numbers}
use Rattle.graph.specs.Parts.{Parts, parts}
use Rattle.graph.proofs.BuiltWell.{built_well_is}
use Rattle.lent.specs.LentCode.{NotRefused}
use Rattle.lent.specs.Misencoded.{graph_in}
use Rattle.lent.specs.Sound.{Formed}
use Rattle.lent.proofs.NotRefused.{built_not_refused}
use Rattle.lent.proofs.SoundCode.{sound}
use Rattle.words.specs.Encoding.{information_of}
use Rattle.words.specs.Word.{sum_turn, check_sum, all_satisfied}
use Rattle.words.proofs.CheckSums.{all_satisfied-true}
use Rattle.rounds.specs.Tanner.{Tanner, tanner_in, graph_of, check_of}
use Rattle.rounds.specs.CheckStep.{input, product_of, others, outgoing, from_check}
use Rattle.rounds.specs.VariableStep.{gathered, posterior}
use Rattle.rounds.specs.Round.{State, answers, posteriors}
use Rattle.rounds.specs.Begin.{past_known, channels, begin}
use Rattle.rounds.specs.Rounds.{after, posteriors_after, decisions, satisfies}
use Rattle.rounds.proofs.KnownRounds.{known_posterior, known_begun}
use Rattle.rounds.specs.Work.{vectors_length}
use Rattle.decoders.specs.BeliefPropagation.{start, wide}
use Rattle.decoders.specs.DecodeSoft.{decode_soft}
use Rattle.decoders.specs.Decodes.{Decodes}
use Rattle.decoders.proofs.Answers.{Answer}
use Rattle.decoders.proofs.Theorem.{fitting_comes, decodes}

-- ---- the floats, computed

-- 32.0
abbrev thirty_two : Float
thirty_two = of_bits binary32 0x4200_0000

-- what a check transforms for its only edge, and what that becomes: 32.0 at 0, 0.0 elsewhere
abbrev ones : Vector
ones = entry_product (replicate 32 one32) (replicate 32 one32)

ones-wht : wht ones ≡ set (replicate 32 zero32) 0 thirty_two
unfolding wht butterflies entry_product iter values mul add sub round of_bits
ones-wht = refl

-- read back and raised: 1e-30 elsewhere
abbrev sent : Vector
sent = set (replicate 32 tiny32) 0 thirty_two

first_raised : raised thirty_two ≡ thirty_two
unfolding raised pick lt of_bits
first_raised = refl

rest_raised : raised zero32 ≡ tiny32
unfolding raised pick lt of_bits
rest_raised = refl

flat : decision (normalized (entry_product (channel (vector (replicate 32 zero32) 0)) (normalized sent))) ≡ 0
unfolding decision normalized entry_sum scaled entry_product vector channel greatest likelihood exp reduced iter while values pick lt le mul add sub div neg round of_bits
flat = refl

-- ---- the message from a check with one edge

-- by any coefficient but 0
own_read : (h : ℕ) → 0 < h → h < 32 → (x : ℕ) → x < 32 → raised (at (set (replicate 32 zero32) 0 thirty_two) (product h x)) ≡ at sent x
own_read h a b zero l = ap (λ (k : ℕ). raised (at (set (replicate 32 zero32) 0 thirty_two) k)) (product-zero h) ∙ first_raised
own_read h a b (suc x) l =
    ap raised (past (product h (suc x)) (λ e. ⊎_elim (λ q. omega arith) (λ q. omega arith) (no_zero_divisors h (suc x) b l e)) (product-lt h (suc x)))
    ∙ rest_raised ∙ sym (get_or-replicate 31 x tiny32 nan (omega arith))
  where
    past : (k : ℕ) → k ≢ 0 → k < 32 → at (set (replicate 32 zero32) 0 thirty_two) k ≡ zero32
    past zero n l = absurd (n refl)
    past (suc k) n l = get_or-replicate 31 k zero32 nan (omega arith)

sent_is : (h : ℕ) → 0 < h → h < 32 → read_back h (wht ones) ≡ sent
unfolding read_back values
sent_is h a b =
    ap (read_back h) ones-wht
    ∙ values_ext 32 (λ x. raised (at (set (replicate 32 zero32) 0 thirty_two) (product h x))) (at sent) nan (own_read h a b)

check_of_single : (row : List ℕ) → nth row 1 ≡ 1 → check_of 1 row 0 ≡ 0
unfolding check_of lowest
check_of_single row e = pick-true (ltb 0 (nth row 1)) 0 1 (lt-ltb 0 (nth row 1) (omega arith))

no_others : (lo hi : ℕ) (f : ℕ → Vector) → lo ≡ 0 → hi ≡ 1 → others lo hi f 0 ≡ ones
unfolding others product_of iter
no_others lo hi f a b = let u : 0 - lo ≡ 0 = omega arith in let v : hi - 1 - 0 ≡ 0 = omega arith in rw (u, v)

from_one : (coef row : List ℕ) (to : ℕ → Vector) → nth row 0 ≡ 0 → nth row 1 ≡ 1 → 0 < nth coef 0 → nth coef 0 < 32 → from_check 1 coef row to 0 ≡ normalized sent
unfolding from_check outgoing
from_one coef row to a b l h =
    ap (λ (c : ℕ). outgoing (nth coef 0) (others (nth row c) (nth row (c + 1)) (input coef to) 0)) (check_of_single row b)
    ∙ ap (outgoing (nth coef 0)) (no_others (nth row 0) (nth row 1) (input coef to) a b)
    ∙ ap normalized (sent_is (nth coef 0) l h)

posterior_one : (start col : List ℕ) (channel from : ℕ → Vector) → nth start 0 ≡ 0 → nth start 1 ≡ 1 → nth col 0 ≡ 0
    → posterior start col channel from 0 ≡ normalized (entry_product (channel 0) (from 0))
unfolding posterior gathered iter
posterior_one start col channel from a b e =
    let u : nth start 1 - nth start 0 ≡ 1 = omega arith in
    let w : nth col (nth start 0 + 0) ≡ 0 = ap (nth col) (let z : nth start 0 + 0 ≡ 0 = omega arith in z) ∙ e in
    ap (λ (d : ℕ). normalized (gathered d (λ j. nth col (nth start 0 + j)) from (channel 0))) u ∙ ap (λ (k : ℕ). normalized (entry_product (channel 0) (from k))) w

-- ---- zeros satisfy every check

abbrev zero_word : List ℕ
zero_word = 0 ∷ []

word_zero : (j : ℕ) → nth zero_word j ≡ 0
word_zero zero = refl
word_zero (suc j) = refl

sum_zero : (es : List Edge) → foldl (sum_turn zero_word) 0 es ≡ 0
sum_zero [] = refl
sum_zero (e ∷ es) =
    ap (λ (k : ℕ). foldl (sum_turn zero_word) (bit_xor 0 k) es) (ap (product e.1) (word_zero e.0) ∙ product-zero e.1) ∙ sum_zero es

zero_satisfies : (g : Graph) → all_satisfied g zero_word ≡ true
zero_satisfies g = (all_satisfied-true g zero_word).1 (λ c h. unfold check_sum in sum_zero (check g c))

-- ---- the claim

-- metrics all 0.0
abbrev pub flat_metrics : List Float
flat_metrics = replicate 32 zero32

-- parts of the right lengths; of the work parts, matrix, pivots and vectors, there are the lengths alone
pub record LengthsFit (word : List ℕ) (given : List Float) (matrix pivots vectors : ℕ) : Type 0 where
  pub word_long : length word ≡ 1
  pub given_long : length given ≡ 32
  pub matrix_long : matrix ≡ 65536
  pub pivots_long : pivots ≡ 256
  pub vectors_long : vectors ≡ vectors_length

-- one round gives word 0, zero rounds give 10, whatever the known count
pub record Starred (c : Code) (p : Parts) : Type 0 where
  pub one_round : (known : ℕ) (word : List ℕ) (given : List Float) (matrix pivots vectors : ℕ) → LengthsFit word given matrix pivots vectors
      → (decode_soft c p flat_metrics known 1 word given matrix pivots vectors).answer ≡ record { answer = Ok tt; rounds = 1 }
  pub one_word : (known : ℕ) (word : List ℕ) (given : List Float) (matrix pivots vectors : ℕ) → LengthsFit word given matrix pivots vectors
      → (decode_soft c p flat_metrics known 1 word given matrix pivots vectors).word ≡ 0 ∷ []
  pub no_round : (known : ℕ) (word : List ℕ) (given : List Float) (matrix pivots vectors : ℕ) → LengthsFit word given matrix pivots vectors
      → (decode_soft c p flat_metrics known 0 word given matrix pivots vectors).answer ≡ record { answer = Err NoWord; rounds = 0 }

-- ---- of a code of one symbol, one check and one edge that is not refused

abbrev one_edge : ℕ → Code
one_edge rank = record { n = 1; m = 1; edges = 1; rank = rank }

module _ (rank : ℕ) (p : Parts) (ok : NotRefused (one_edge rank) p) (known : ℕ) where
  abbrev c : Code
  c = one_edge rank

  abbrev t : Tanner
  t = tanner_in c p

  abbrev s : State
  s = start c p flat_metrics known

  abbrev positions : List ℕ
  positions = information_of (graph_in c p) p.order

  graph : Formed c p
  graph = (sound c p ok).formed

  message : answers t s 0 ≡ normalized sent
  message = let h = graph.coefs 0 (omega arith) in from_one p.coef p.row s.messages graph.rows.first graph.rows.last h.0 h.1

  -- where it is not known to be 0
  unknown : past_known positions known 0 ≡ false → decision (posteriors t s 0) ≡ 0
  unfolding posteriors start begin channels
  unknown e =
      ap decision
      (posterior_one p.start p.col s.channel (answers t s) graph.columns.first graph.columns.last (omega (arith, graph.places.inside 0 (omega arith)))
      ∙ ap₂ (λ (a b : Vector). normalized (entry_product a b)) (pick-false (past_known positions known 0) known_zero (channel (vector flat_metrics 0)) e) message)
      ∙ flat

  decided_zero : decision (posteriors t s 0) ≡ 0
  unfolding start begin
  decided_zero =
      ⊎_elim
      (λ e. known_posterior t s 0 (known_begun positions flat_metrics known 0 e))
      unknown
      (true_or_false (past_known positions known 0))

  decisions_one : decisions t s 1 ≡ zero_word
  unfolding decisions values posteriors_after after iter
  decisions_one = ap (λ (x : ℕ). x ∷ []) decided_zero

  satisfied_one : satisfies t s 1 ≡ true
  unfolding satisfies
  satisfied_one = ap (all_satisfied (graph_of t)) decisions_one ∙ zero_satisfies (graph_of t)

  module _ (word : List ℕ) (given : List Float) (matrix pivots vectors : ℕ) (fit : LengthsFit word given matrix pivots vectors) where
    narrow : (limit : ℕ) → (ltb 0 limit && wide 1 p.row) ≡ false
    unfolding wide any_below
    narrow limit =
        let z : ltb 32 (nth p.row 1 - nth p.row 0) ≡ false = le-ltb 32 (nth p.row 1 - nth p.row 0) (omega (arith, graph.rows.last)) in
        rw (z, and-false (ltb 0 limit))

    does : (limit : ℕ) → Decodes c p flat_metrics known limit word given matrix pivots vectors
    does limit =
        decodes c p flat_metrics known limit word given matrix pivots vectors
        (fitting_comes c p flat_metrics known limit word given matrix pivots vectors ok
        (fit.matrix_long, (fit.pivots_long, tt)) (refl, (fit.word_long, (fit.given_long, (fit.vectors_long, tt)))) (narrow limit))

    done : (decode_soft c p flat_metrics known 1 word given matrix pivots vectors).answer.answer ≡ Ok tt
    done = (does 1).accepts 1 (omega arith) (omega arith) satisfied_one

    count : (decode_soft c p flat_metrics known 1 word given matrix pivots vectors).answer.rounds ≡ 1
    count = let w = (does 1).counts done in omega arith

    found : (decode_soft c p flat_metrics known 1 word given matrix pivots vectors).answer ≡ record { answer = Ok tt; rounds = 1 }
    found = ap₂ (λ (a : Answer) (r : ℕ). record { answer = a; rounds = r }) done count

    found_word : (decode_soft c p flat_metrics known 1 word given matrix pivots vectors).word ≡ 0 ∷ []
    found_word = (does 1).decided done ∙ ap (decisions t s) count ∙ decisions_one

    none : (decode_soft c p flat_metrics known 0 word given matrix pivots vectors).answer ≡ record { answer = Err NoWord; rounds = 0 }
    none =
        let w = (does 0).refused (λ z. let q = (does 0).counts z in omega arith) in
        ap₂ (λ (a : Answer) (r : ℕ). record { answer = a; rounds = r }) w.0 w.1

code_is : (c : Code) → c.n ≡ 1 → c.m ≡ 1 → c.edges ≡ 1 → c ≡ one_edge c.rank
code_is c a b e =
    ap (λ (n : ℕ). record { n = n; m = c.m; edges = c.edges; rank = c.rank }) a
    ∙ ap₂ (λ (m edges : ℕ). record { n = 1; m = m; edges = edges; rank = c.rank }) b e

pub starred : (c : Code) (p : Parts) → c.n ≡ 1 → c.m ≡ 1 → c.edges ≡ 1 → NotRefused c p → Starred c p
starred c p a b e r =
    let q = code_is c a b e in
    let ok = subst (λ (x : Code). NotRefused x p) q r in
    subst (λ (x : Code). Starred x p) (sym q) (record { one_round = found c.rank p ok; one_word = found_word c.rank p ok; no_round = none c.rank p ok })

-- ---- of the code that `new` builds for one symbol of degree 1 and one check

one_total : total 1 (nth (1 ∷ [])) ≡ 1
unfolding total iter
one_total = refl

buildable : Buildable 1 1 (1 ∷ [])
buildable = record {
  n_small = omega arith;
  m_small = omega arith;
  long = refl;
  low = low;
  sum = omega (arith, one_total);
}
  where
    low : (v : ℕ) → v < 1 → nth (1 ∷ []) v ≤ 1
    low zero h = omega arith
    low (suc v) h = omega arith

pub starred_built : (seed : ℕ) → Starred (numbers (built 1 1 (1 ∷ []) seed) (descending 1)) (parts (built 1 1 (1 ∷ []) seed) (descending 1))
starred_built seed =
    let w = built_well_is 1 1 (1 ∷ []) seed buildable in
    starred (numbers (built 1 1 (1 ∷ []) seed) (descending 1)) (parts (built 1 1 (1 ∷ []) seed) (descending 1))
    (unfold numbers in w.symbols) (unfold numbers in w.checks) (unfold numbers in w.count ∙ one_total) (built_not_refused 1 1 (1 ∷ []) seed buildable)
