-- How a frame's decoding ends: turned down by 9, without a word by 10, with padding that is not 0 by 11, or with its bits.
-- Assumes nothing.
use mathlib.Core.Path.{◌≡◌, refl, sym, ap, ◌∙◌}
use mathlib.Core.Bool.{Bool, true, false, not, true≢false, ◌&&◌}
use mathlib.Core.List.{List, [], ◌∷◌}
use Rattle.std.specs.Prelude.{Result, Ok, Err, is_err}
use Rattle.lists.specs.Choice.{pick}
use Rattle.calls.specs.declared.Refusal.{Refusal}
use Rattle.calls.specs.declared.Refusal.TheVariants.{WideCheck, NoWord, Padding}
use Rattle.calls.specs.Refusal.{first_of, answered}
use Rattle.calls.specs.Parts.{written, posted}
use Rattle.decoders.specs.BeliefPropagation.{ended_by}

abbrev pub Answer : Type 0
Answer = Result (Unit {0}) Refusal

-- ---- the word: `sat` says whether a round satisfies all checks, `a` is what the rounds answer, and the list is asked where `asked`

abbrev pub no_word : Bool → Bool → List (Bool × Refusal)
no_word sat asked = (not sat && not asked, NoWord) ∷ []

pub unsatisfied : (sat : Bool) {a : Answer} → a ≡ ended_by sat → is_err a ≡ true → sat ≡ false
unsatisfied true e h = absurd (true≢false (sym h ∙ ap is_err e))
unsatisfied false e h = refl

pub by_rounds : (sat asked : Bool) {a : Answer} → a ≡ ended_by sat → (asked && is_err a) ≡ false → a ≡ answered (first_of (no_word sat asked)) tt
by_rounds true asked e h = e
by_rounds false true e h = absurd (true≢false (sym (ap is_err e) ∙ h))
by_rounds false false e h = e

pub word_by_rounds : {A : Type 0} (sat : Bool) {a : Answer} (given last list : A) → a ≡ ended_by sat → written a given last ≡ written a given (pick sat last list)
unfolding pick
word_by_rounds true given last list e = refl
word_by_rounds {A = A} false given last list e = ap (λ (x : Answer). written x given last) e ∙ sym (ap (λ (x : Answer). written x given list) e)

pub word_by_list : {A : Type 0} (sat : Bool) (last list : A) → sat ≡ false → list ≡ pick sat last list
unfolding pick
word_by_list sat last list e = rw e refl

-- ---- the frame: `wide`, `none` and `used` are the tests of 9, 10 and 11

module _ (wide none used : Bool) where
  abbrev pub tests : List (Bool × Refusal)
  tests = (wide, WideCheck) ∷ (none, NoWord) ∷ (used, Padding) ∷ []

  pub end_wide : wide ≡ true → ◌≡◌ {A = Answer} (Err WideCheck) (answered (first_of tests) tt)
  end_wide e = rw e refl

  module _ (w : wide ≡ false) {a : Answer} (e : a ≡ answered (first_of ((none, NoWord) ∷ [])) tt) where
    pub is_ten : is_err a ≡ true → a ≡ Err NoWord
    is_ten h = go none e
      where
        go : (t : Bool) → a ≡ answered (first_of ((t, NoWord) ∷ [])) tt → a ≡ Err NoWord
        go true q = q
        go false q = absurd (true≢false (sym h ∙ ap is_err q))

    some : is_err a ≡ false → none ≡ false
    some h = go none e
      where
        go : (t : Bool) → a ≡ answered (first_of ((t, NoWord) ∷ [])) tt → t ≡ false
        go true q = absurd (true≢false (sym (ap is_err q) ∙ h))
        go false q = refl

    pub is_found : is_err a ≡ false → a ≡ Ok tt
    is_found h = rw (some h) at e

    pub end_ten : is_err a ≡ true → a ≡ answered (first_of tests) tt
    end_ten h = go none e
      where
        go : (t : Bool) → a ≡ answered (first_of ((t, NoWord) ∷ [])) tt → a ≡ answered (first_of ((wide, WideCheck) ∷ (t, NoWord) ∷ (used, Padding) ∷ [])) tt
        go true q = rw w q
        go false q = absurd (true≢false (sym h ∙ ap is_err q))

    pub end_word : is_err a ≡ false → {b : Answer} → b ≡ answered (first_of ((used, Padding) ∷ [])) tt → b ≡ answered (first_of tests) tt
    end_word h q = rw (w, some h) q

pub found_word : {A : Type 0} {a : Answer} (given new : A) {word : A} → a ≡ Ok tt → word ≡ written a given new → word ≡ new
found_word given new e h = h ∙ ap (λ (x : Answer). written x given new) e

-- the bits of a word

pub end_padding : (used : Bool) → used ≡ true → ◌≡◌ {A = Answer} (Err Padding) (answered (first_of ((used, Padding) ∷ [])) tt)
end_padding used e = rw e refl

pub end_bits : (used : Bool) → used ≡ false → ◌≡◌ {A = Answer} (Ok tt) (answered (first_of ((used, Padding) ∷ [])) tt)
end_bits used e = rw e refl

-- what stays after the rounds

pub ten_counts : {A : Type 0} {a : Answer} (given new : A) → a ≡ Err NoWord → new ≡ posted a given new
ten_counts given new e = sym (ap (λ (x : Answer). posted x given new) e)

pub word_counts : {A : Type 0} (used : Bool) {b : Answer} (given new : A) → b ≡ answered (first_of ((used, Padding) ∷ [])) tt → new ≡ posted b given new
word_counts true given new e = sym (ap (λ (x : Answer). posted x given new) e)
word_counts false given new e = sym (ap (λ (x : Answer). posted x given new) e)
