-- What the calls of words answer on a code that is not refused, with parts of the right lengths, and what their acceptance says.
-- Assumes nothing.
use Prim.Native.Nat.{ℕ, ◌-◌, ◌≤◌}
use mathlib.Core.Path.{◌≡◌, refl, sym, ap, ◌∙◌}
use mathlib.Core.Bool.{Bool, false}
use mathlib.Core.List.{List, [], ◌∷◌, ◌++◌}
use native.Mathlib.Omega.{arith}
use borrow.Author.Tests.{le-ltb, ltb-false}
use lib.Dec.{ltb}
use lib.ListN.{length, replicate}
use lib.Seq.{take_at}
use Rattle.lists.specs.Entry.{nth}
use Rattle.lists.proofs.AnyBelow.{any_below_none}
use Rattle.std.specs.Prelude.{Option, None, Result, Ok}
use Rattle.calls.specs.declared.Refusal.{Refusal}
use Rattle.calls.specs.declared.Refusal.TheVariants.{Value}
use Rattle.calls.specs.Refusal.{first_of, answered, misfit}
use Rattle.calls.specs.Parts.{written, padded}
use Rattle.calls.proofs.Refusals as Refusals
use Rattle.lent.specs.Held.{Held}
use Rattle.lent.specs.LentCode.{NotRefused, graph_of, lent_refusals}
use Rattle.lent.proofs.SoundCode.{not_refused, call_passes}
use Rattle.words.specs.BadWord.{bad_word}
use Rattle.words.specs.Encode.{encode_refusals, encoded}
use Rattle.words.specs.InfoOf.{own_symbols, own_part}
use Rattle.words.specs.K.{k_of}
use Rattle.words.specs.Word.{Symbols, all_satisfied}
use Rattle.words.proofs.Encodings.{info_length}
use Rattle.promise.specs.Calls.{Fit, encode_answer, Encodes, handed, handed_back, checks_ok_answer}

-- no symbol of a word is above 31
good_word : (n : ℕ) (x : List ℕ) → Symbols n x → bad_word x ≡ false
unfolding bad_word
good_word n x y = any_below_none (length x) (λ j. ltb 31 (nth x j)) (λ j h. le-ltb 31 (nth x j) (omega (arith, y.small j (omega (arith, y.long)))))

module _ (l : Held) (h pivots : ℕ) where
  -- ---- encode

  module _ (word : List ℕ) where
    abbrev code_tests : List (Bool × Refusal)
    code_tests = lent_refusals l h pivots (misfit ((length word, l.code.n) ∷ []))

    abbrev encode_tests : List ℕ → Option Refusal
    encode_tests u = first_of (encode_refusals l u (length word) h pivots)

    encode_passes : (u : List ℕ) → encode_tests u ≡ None → Encodes l h pivots word u (encoded l u)
    encode_passes u e = record {
      accepts = ap (λ (t : Option Refusal). answered t tt) e;
      leaves = ap (λ (t : Option Refusal). written {A = Unit {0}} (answered t tt) word (encoded l u)) e;
    }

    -- it passes where the tests of the code do, with no more symbols than there are positions
    few_pass : (u : List ℕ) → first_of code_tests ≡ None → length u ≤ k_of l → encode_tests u ≡ None
    few_pass u e m =
        Refusals.second code_tests ((ltb (k_of l) (length u), Value) ∷ []) e
        ∙ sym (Refusals.first_miss Value [] refl (le-ltb (k_of l) (length u) m) refl)

    module _ (u : List ℕ) (a : encode_answer l h pivots word u ≡ Ok tt) where
      accepted_both : (first_of code_tests ≡ None) × (first_of ((ltb (k_of l) (length u), Value) ∷ []) ≡ None)
      accepted_both = Refusals.both_pass code_tests ((ltb (k_of l) (length u), Value) ∷ []) (Refusals.by_ok (encode_tests u) tt (sym a)).0

      -- what an accepted call says
      pub accepted_code : NotRefused l.code l.parts
      accepted_code = not_refused l.code l.parts h pivots (misfit ((length word, l.code.n) ∷ [])) accepted_both.0

      pub accepted_few : length u ≤ k_of l
      accepted_few = ltb-false (k_of l) (length u) (Refusals.pass (ltb (k_of l) (length u)) Value [] accepted_both.1).0

      pub accepted_word : written (encode_answer l h pivots word u) word (encoded l u) ≡ encoded l u
      accepted_word = ap (λ (r : Result (Unit {0}) Refusal). written r word (encoded l u)) a

      -- other symbols, no more of them, are accepted too
      pub accepted_other : (v : List ℕ) → length v ≤ k_of l → Encodes l h pivots word v (encoded l v)
      accepted_other v m = encode_passes v (few_pass v accepted_both.0 m)

  -- ---- with parts that fit

  module _ (ok : NotRefused l.code l.parts) (word symbols : List ℕ) (fit : Fit l.code.n word symbols h pivots) where
    code_passes : (rest : Bool) → rest ≡ false → first_of (lent_refusals l h pivots rest) ≡ None
    code_passes rest e = call_passes l.code l.parts h pivots rest ok (fit.h_long, (fit.pivots_long, tt)) e

    pub encode_answers : (u : List ℕ) → length u ≤ k_of l → Encodes l h pivots word u (encoded l u)
    encode_answers u m =
        encode_passes word u
        (few_pass word u (code_passes (misfit ((length word, l.code.n) ∷ [])) (Refusals.fitting ((length word, l.code.n) ∷ []) false (fit.word_long, tt) refl)) m)

    module _ (x : List ℕ) (y : Symbols l.code.n x) where
      -- the tests of a call on a word, whose parts have the lengths `own`
      word_passes : (own : List (ℕ × ℕ)) → Refusals.Alike own → first_of (lent_refusals l h pivots (misfit own) ++ (bad_word x, Value) ∷ []) ≡ None
      word_passes own a =
          Refusals.second (lent_refusals l h pivots (misfit own)) ((bad_word x, Value) ∷ []) (code_passes (misfit own) (Refusals.fitting own false a refl))
          ∙ sym (Refusals.first_miss Value [] refl (good_word l.code.n x y) refl)

      pub checks_answer : checks_ok_answer l h pivots x ≡ Ok (all_satisfied (graph_of l) x)
      checks_answer = ap (λ (t : Option Refusal). answered t (all_satisfied (graph_of l) x)) (word_passes ((length x, l.code.n) ∷ []) (y.long, tt))

      abbrev own : List ℕ
      own = own_symbols l x

      pub own_symbols_lem : handed_back l h pivots symbols x ≡ own
      unfolding padded
      own_symbols_lem =
          let e = word_passes ((length x, l.code.n) ∷ (length symbols, l.code.n) ∷ []) (y.long, (fit.symbols_long, tt)) in
          ap (λ (t : Option Refusal). handed l h pivots (answered t (length own)) (written (answered t (length own)) symbols (own_part l x))) e
          ∙ take_at own (replicate (l.code.n - length own) 0) (length own) refl

      pub own_few : length own ≤ k_of l
      own_few = omega (arith, info_length (graph_of l) l.parts.order x)
