-- The theorem about a decoding from any state on, whatever floats the state holds and whichever tests come before the rounds: what it hands out is what its rounds say.
-- Assumes nothing.
use Prim.Native.Nat.{ℕ, ◌<◌, ◌≤◌}
use mathlib.Core.Path.{◌≡◌, refl, sym, ap, ◌∙◌}
use mathlib.Core.Bool.{Bool, true≢false, ◌||◌}
use mathlib.Core.List.{List, [], ◌∷◌}
use mathlib.Core.Logic.{◌≢◌, ⊎_elim}
use native.Mathlib.Omega.{arith}
use borrow.Author.Tests.{le-ltb, lt-ltb}
use lib.Dec.{eqb, ltb}
use lib.Ieee.{Float}
use lib.ListN.{length}
use Rattle.lists.specs.Chain.{chain}
use Rattle.lists.specs.Entry.{nth}
use Rattle.lists.proofs.Cases.{less_or_not}
use Rattle.std.specs.Prelude.{Option, None, Some, Result, Ok, Err}
use Rattle.calls.specs.declared.Refusal.{Refusal}
use Rattle.calls.specs.declared.Refusal.TheVariants.{NoWord}
use Rattle.calls.specs.Refusal.{number_of, answer_number, first_of, answered}
use Rattle.calls.specs.Parts.{written, posted, counted}
use Rattle.calls.proofs.Refusals as Refusals
use Rattle.elimination.specs.Held.{held}
use Rattle.elimination.proofs.Infos.{info_inside}
use Rattle.graph.specs.declared.Code.{Code}
use Rattle.graph.specs.Parts.{Parts}
use Rattle.lent.specs.Misencoded.{graph_in, reduced_in}
use Rattle.words.specs.Encoding.{information_of}
use Rattle.vectors.specs.KnownZero.{KnownInValue}
use Rattle.rounds.specs.ByRounds.{NoneSatisfied, ByRounds}
use Rattle.rounds.specs.Round.{State}
use Rattle.rounds.specs.Rounds.{posteriors_after, decisions, first_satisfied, rounds_made}
use Rattle.rounds.specs.Tanner.{Tanner, tanner_in}
use Rattle.rounds.proofs.ByRounds.{by_rounds}
use Rattle.decoders.specs.BeliefPropagation.{tests_from}
use Rattle.decoders.specs.DecodeSoft.{DecodedSoft, decoded_from}
use Rattle.decoders.specs.Propagates.{Propagates}
use Rattle.decoders.proofs.Answers.{done_not_refused, one_refusal}
use Rattle.decoders.proofs.FromEnds.{Early, early_not}

module _ (early : List (Bool × Refusal)) (numbers : Early early) (t : Tanner) (s : State) (limit : ℕ) (word : List ℕ) (given : List Float) where
  -- what the call gives
  abbrev d : DecodedSoft
  d = decoded_from early t s limit word given

  pub record Decodes : Type 0 where
    -- what it hands out is what its rounds say
    pub rounds : ByRounds t s limit (d.answer.answer ≡ Ok tt) d.answer.rounds d.word
    -- where it does not accept, the number is 10, and the word part is as it was
    pub refused : d.answer.answer ≢ Ok tt → (d.answer.answer ≡ Err NoWord) × (d.word ≡ word)
    -- either way the posteriors are the last round's
    pub posteriors : d.posteriors ≡ chain t.n (posteriors_after t s d.answer.rounds)

  -- ---- the tests

  -- the first round that satisfies all checks, and how many are made
  abbrev f : ℕ
  f = first_satisfied t s limit

  abbrev made : ℕ
  made = rounds_made t s limit

  abbrev number : Option Refusal
  number = first_of (tests_from early t s limit)

  abbrev answer : Option Refusal → Result (Unit {0}) Refusal
  answer n = answered n tt

  -- "Unless refused by a number other than 10" it comes to its rounds
  pub comes : ((r : Refusal) → d.answer.answer ≡ Err r → number_of r ≡ 10) → first_of early ≡ None
  unfolding decoded_from
  comes h = go (first_of early) refl
    where
      go : (n : Option Refusal) → first_of early ≡ n → n ≡ None
      go None e = refl
      go (Some r) e =
          let ten = h r (ap answer (Refusals.stays early ((ltb limit f, NoWord) ∷ []) e)) in
          absurd (true≢false (ap (λ (k : ℕ). eqb k 10 || eqb k 11) (sym ten) ∙ early_not early numbers e))

  module _ (e : first_of early ≡ None) where
    number_is : number ≡ first_of ((ltb limit f, NoWord) ∷ [])
    number_is = Refusals.second early ((ltb limit f, NoWord) ∷ []) e

    -- ---- where a round up to the limit satisfies all checks, and where none does

    hit : f ≤ limit → number ≡ None
    hit h = number_is ∙ sym (Refusals.first_miss NoWord [] refl (le-ltb limit f h) refl)

    miss : limit < f → number ≡ Some NoWord
    miss h = number_is ∙ sym (Refusals.first_hit [] refl (lt-ltb limit f h))

    hit_answer : f ≤ limit → d.answer.answer ≡ Ok tt
    unfolding decoded_from
    hit_answer h = ap answer (hit h)

    miss_answer : limit < f → d.answer.answer ≡ Err NoWord
    unfolding decoded_from
    miss_answer h = ap answer (miss h)

    miss_done : limit < f → d.answer.answer ≢ Ok tt
    miss_done h z = done_not_refused NoWord (sym z ∙ miss_answer h)

    done : d.answer.answer ≡ Ok tt → f ≤ limit
    done z = ⊎_elim (λ h. absurd (miss_done h z)) (λ h. h) (less_or_not limit f)

    not_found : d.answer.answer ≢ Ok tt → limit < f
    not_found z = ⊎_elim (λ h. h) (λ h. absurd (z (hit_answer h))) (less_or_not limit f)

    -- ---- the count, the word and the posteriors

    count_is : d.answer.rounds ≡ made
    unfolding decoded_from
    count_is = ⊎_elim (λ h. ap (λ (n : Option Refusal). counted (answer n) made) (miss h)) (λ h. ap (λ (n : Option Refusal). counted (answer n) made) (hit h)) (less_or_not limit f)

    word_is : d.answer.answer ≡ Ok tt → d.word ≡ decisions t s d.answer.rounds
    unfolding decoded_from
    word_is z = ap (λ (n : Option Refusal). written (answer n) word (decisions t s made)) (hit (done z)) ∙ ap (decisions t s) (sym count_is)

    word_kept : d.answer.answer ≢ Ok tt → d.word ≡ word
    unfolding decoded_from
    word_kept z = ap (λ (n : Option Refusal). written (answer n) word (decisions t s made)) (miss (not_found z))

    abbrev last : List Float
    last = chain t.n (posteriors_after t s made)

    posteriors_are : d.posteriors ≡ chain t.n (posteriors_after t s d.answer.rounds)
    unfolding decoded_from
    posteriors_are =
        ⊎_elim (λ h. ap (λ (n : Option Refusal). posted (answer n) given last) (miss h)) (λ h. ap (λ (n : Option Refusal). posted (answer n) given last) (hit h)) (less_or_not limit f)
        ∙ ap (λ (r : ℕ). chain t.n (posteriors_after t s r)) (sym count_is)

    pub decodes : Decodes
    decodes = record {
      rounds = by_rounds t s limit (d.answer.answer ≡ Ok tt) d.answer.rounds d.word hit_answer miss_done count_is word_is;
      refused = λ z. (miss_answer (not_found z), word_kept z);
      posteriors = posteriors_are;
    }

  -- so of every call that accepts, and of every one that 10 turns down
  pub accepted : d.answer.answer ≡ Ok tt → Decodes
  accepted z = decodes (comes (λ r q. absurd (done_not_refused r (sym z ∙ q))))

  pub under_ten : d.answer.answer ≡ Err NoWord → Decodes
  under_ten z = decodes (comes (λ r q. ap number_of (one_refusal r NoWord (sym q ∙ z))))

  -- by its number
  pub numbered_ten : answer_number d.answer.answer ≡ 10 → NoneSatisfied t s limit
  numbered_ten e = go d.answer.answer refl
    where
      go : (a : Result (Unit {0}) Refusal) → d.answer.answer ≡ a → NoneSatisfied t s limit
      go (Ok u) q = absurd (let z : 0 ≡ 10 = sym (ap answer_number q) ∙ e in omega (arith, z))
      go (Err r) q =
          let ten : number_of r ≡ 10 = sym (ap answer_number q) ∙ e in
          (decodes (comes (λ k y. ap number_of (one_refusal k r (sym y ∙ q)) ∙ ten))).rounds.none (λ z. done_not_refused r (sym z ∙ q))

-- ---- what is promised of it, on a lent code, from every state whose later information positions are known to be zero

module _ (c : Code) (p : Parts) (s : State) (known : ℕ) where
  abbrev positions : List ℕ
  positions = information_of (graph_in c p) p.order

  -- "whose channel vector at an information position .. past the known count" does not differ "in value from the known zero's"
  abbrev pub KnownPast : Type 0
  KnownPast = (i : ℕ) → known ≤ i → i < length positions → KnownInValue (s.channel (nth positions i))

  pub from_propagates : KnownPast → (early : List (Bool × Refusal)) → Early early → (limit : ℕ) (word : List ℕ) (given : List Float)
      → let d = decoded_from early (tanner_in c p) s limit word given in Propagates c p s known limit d.answer.answer d.answer.rounds d.word
  unfolding information_of held
  from_propagates past early numbers limit word given =
      let all = accepted early numbers (tanner_in c p) s limit word given in
      record {
        words = λ z. (all z).rounds.is_word z;
        zeros = λ z i a b. (all z).rounds.zeros z (nth positions i) (info_inside c.n (reduced_in c p) i b) (past i a b);
        rounds = λ h. (decodes early numbers (tanner_in c p) s limit word given (comes early numbers (tanner_in c p) s limit word given h)).rounds;
        ten = numbered_ten early numbers (tanner_in c p) s limit word given;
      }
