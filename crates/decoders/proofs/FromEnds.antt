-- The ends of a decoding from any state on: turned down before its rounds, and after them, with a word or without. Each is the right side of a call's clause.
-- Assumes nothing.
use Prim.Native.Nat.{ℕ}
use mathlib.Core.Path.{◌≡◌, refl, sym, ap, ◌∙◌}
use mathlib.Core.Bool.{Bool, true, false, not}
use mathlib.Core.List.{List, [], ◌∷◌}
use borrow.Author.Tests.{leb-true, leb-false, lt-ltb, le-ltb, not-true}
use lib.Dec.{T, leb, ltb}
use lib.Ieee.{Float}
use Rattle.lists.specs.Chain.{chain}
use Rattle.lists.proofs.Chain.{chain_ext}
use Rattle.std.specs.Prelude.{Option, None, Some, Result, Err, cond}
use Rattle.calls.specs.declared.Refusal.{Refusal}
use Rattle.calls.specs.declared.Refusal.TheVariants.{NoWord}
use Rattle.calls.specs.Refusal.{first_of, answered}
use Rattle.calls.specs.Parts.{after_rounds, written, posted, counted}
use Rattle.calls.proofs.Refusals.{of_class, first_class, second, err_stays, by_err}
use Rattle.rounds.specs.Tanner.{Tanner}
use Rattle.rounds.specs.Round.{State}
use Rattle.rounds.specs.Rounds.{posteriors_after, decisions, first_satisfied, rounds_made}
use Rattle.rounds.specs.declared.rounds.Ended.{Ended}
use Rattle.rounds.specs.Work as Work
use Rattle.rounds.specs.GoneOn.{GoneOn}
use Rattle.decoders.specs.BeliefPropagation.{tests_from, ended_by}
use Rattle.decoders.proofs.DecodingEnds.{posted_ended, written_ended}

-- tests before rounds: their refusals are none of those that come after rounds
abbrev pub Early : List (Bool × Refusal) → Type 0
Early tests = T (of_class (λ r. not (after_rounds r)) tests)

pub early_not : (tests : List (Bool × Refusal)) → Early tests → {r : Refusal} → first_of tests ≡ Some r → after_rounds r ≡ false
early_not tests p {r} e = not-true (after_rounds r) (first_class (λ r. not (after_rounds r)) tests p e)

module _ (early : List (Bool × Refusal)) (t : Tanner) (s : State) (limit : ℕ) where
  abbrev f : ℕ
  f = first_satisfied t s limit

  -- how many rounds are made, and what they make
  abbrev made : ℕ
  made = rounds_made t s limit

  abbrev decided : List ℕ
  decided = decisions t s made

  abbrev posts : List Float
  posts = chain t.n (posteriors_after t s made)

  abbrev own : List (Bool × Refusal)
  own = (ltb limit f, NoWord) ∷ []

  abbrev whole : Result (Unit {0}) Refusal
  whole = answered (first_of (tests_from early t s limit)) tt

  -- ---- turned down before its rounds: no count, and the posteriors as they were

  module _ (numbers : Early early) {A : Type 0} (found : A) {r : Refusal} (e : Err r ≡ answered (first_of early) found) where
    pub from_refused : Err r ≡ whole
    from_refused = err_stays early own found tt e

    pub refused_count : 0 ≡ counted {A = Unit {0}} (Err r) made
    refused_count = ap (λ (b : Bool). cond b made 0) (sym (early_not early numbers (by_err (first_of early) found e)))

    pub refused_posteriors : (given : List Float) → given ≡ posted {A = Unit {0}} (Err r) given posts
    refused_posteriors given = ap (λ (b : Bool). cond b posts given) (sym (early_not early numbers (by_err (first_of early) found e)))

  -- ---- after them, from what going on leaves; `a` is the answer

  by_first : (b : Bool) → b ≡ leb f limit → ended_by b ≡ answered (first_of own) tt
  by_first true e = rw (le-ltb limit f (leb-true f limit (sym e))) refl
  by_first false e = rw (lt-ltb limit f (leb-false f limit (sym e))) refl

  module _ (z : first_of early ≡ None) {r : Ended} {w : List Float} {hard : List ℕ} (g : GoneOn t s limit r w hard) {a : Result (Unit {0}) Refusal} (q : a ≡ ended_by r.satisfied) where
    pub from_gone : a ≡ whole
    from_gone = q ∙ by_first r.satisfied g.satisfied ∙ ap (λ (n : Option Refusal). answered n tt) (sym (second early own z))

    pub gone_count : {k : ℕ} → k ≡ r.rounds → k ≡ counted a made
    gone_count d = d ∙ g.rounds ∙ sym (ap (λ (y : Result (Unit {0}) Refusal). counted y made) q ∙ posted_ended r.satisfied 0 made)

    pub gone_word : (word : List ℕ) {new front : List ℕ} → front ≡ hard → new ≡ written a word front → new ≡ written a word decided
    gone_word word {front = front} e d =
        d ∙ ap (λ (y : Result (Unit {0}) Refusal). written y word front) q
        ∙ written_ended r.satisfied word (λ b. e ∙ g.decided b ∙ ap (decisions t s) g.rounds)
        ∙ sym (ap (λ (y : Result (Unit {0}) Refusal). written y word decided) q)

    pub gone_posteriors : (given : List Float) {new : List Float} → new ≡ chain t.n (Work.posts w) → new ≡ posted a given posts
    gone_posteriors given d =
        d ∙ chain_ext t.n (Work.posts w) (posteriors_after t s r.rounds) g.posted ∙ ap (λ (k : ℕ). chain t.n (posteriors_after t s k)) g.rounds
        ∙ sym (ap (λ (y : Result (Unit {0}) Refusal). posted y given posts) q ∙ posted_ended r.satisfied given posts)
