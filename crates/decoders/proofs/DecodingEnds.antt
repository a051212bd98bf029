-- The ends of a decoding: turned down before its rounds, and after them, with a word or without.
-- Assumes nothing.
use Prim.Native.Nat.{ℕ, ◌*◌, ◌<◌}
use mathlib.Core.Path.{◌≡◌, refl, sym, ap, subst, ◌∙◌}
use mathlib.Core.Bool.{Bool, true, false}
use mathlib.Core.List.{List, [], ◌∷◌}
use borrow.Author.Tests.{eq-eqb, leb-true, leb-false, lt-ltb, le-ltb}
use lib.Dec.{leb, ltb}
use lib.Ieee.{Float}
use lib.ListN.{length, take, replicate, length-replicate}
use Rattle.lists.specs.Chain.{chain}
use Rattle.lists.proofs.Chain.{chain_ext}
use Rattle.std.specs.Prelude.{Option, None, Result, Ok}
use Rattle.calls.specs.declared.Refusal.{Refusal}
use Rattle.calls.specs.declared.Refusal.TheVariants.{NoWord}
use Rattle.calls.specs.Refusal.{first_of, answered, misfit}
use Rattle.calls.specs.Parts.{written, posted, counted}
use Rattle.calls.proofs.Refusals.{by_ok, second}
use Rattle.graph.specs.declared.Code.{Code}
use Rattle.graph.specs.Parts.{Parts}
use Rattle.lent.specs.Held.{Held}
use Rattle.rounds.specs.Tanner.{tanner_in}
use Rattle.rounds.specs.Ready.{Narrow}
use Rattle.rounds.specs.Rounds.{posteriors_after, decisions}
use Rattle.rounds.specs.declared.rounds.Ended.{Ended}
use Rattle.rounds.specs.Work as Work
use Rattle.rounds.specs.GoneOn.{GoneOn}
use Rattle.decoders.specs.BeliefPropagation as Bp
use Rattle.decoders.specs.DecodeSoft.{last_decisions, last_posteriors, own_lengths}
use Rattle.decoders.proofs.ReadyCode.{narrow, not_wide}
use Rattle.decoders.proofs.Turned.{tests_code, tests_width, tests_work}

-- ---- after the rounds, by whether one of them satisfied all checks

pub posted_ended : {A : Type 0} (b : Bool) (given new : A) → posted (Bp.ended_by b) given new ≡ new
posted_ended true given new = refl
posted_ended false given new = refl

pub written_ended : {A : Type 0} (b : Bool) (given : A) {new other : A} → (b ≡ true → new ≡ other) → written (Bp.ended_by b) given new ≡ written (Bp.ended_by b) given other
written_ended true given e = e refl
written_ended false given e = refl

module _ (c : Code) (p : Parts) (metrics : List Float) (known limit : ℕ) where
  abbrev own : List (Bool × Refusal)
  own = (ltb limit (Bp.first c p metrics known limit), NoWord) ∷ []

  by_first : (b : Bool) → b ≡ leb (Bp.first c p metrics known limit) limit → Bp.ended_by b ≡ answered (first_of own) tt
  by_first true e = rw (le-ltb limit (Bp.first c p metrics known limit) (leb-true (Bp.first c p metrics known limit) limit (sym e))) refl
  by_first false e = rw (lt-ltb limit (Bp.first c p metrics known limit) (leb-false (Bp.first c p metrics known limit) limit (sym e))) refl

  -- the answer, where the tests before the rounds leave the call
  pub ended_answer : (h pivots : ℕ) (rest : Bool) → first_of (Bp.tests c p h pivots rest limit) ≡ None → (b : Bool) → b ≡ leb (Bp.first c p metrics known limit) limit
      → Bp.ended_by b ≡ answered (first_of (Bp.all_tests c p metrics known limit h pivots rest)) tt
  ended_answer h pivots rest z b e = by_first b e ∙ ap (λ (t : Option Refusal). answered t tt) (sym (second (Bp.tests c p h pivots rest limit) own z))

  -- what the rounds leave, from what going on leaves
  module _ {r : Ended} {w : List Float} {hard : List ℕ} (g : GoneOn (tanner_in c p) (Bp.start c p metrics known) limit r w hard) where
    pub gone_answer : {a : Result (Unit {0}) Refusal} → a ≡ Bp.ended_by r.satisfied → a ≡ Bp.ended_by (Bp.satisfied c p metrics known limit)
    unfolding Bp.first
    gone_answer q = q ∙ ap Bp.ended_by g.satisfied

    pub gone_rounds : r.rounds ≡ Bp.rounds c p metrics known limit
    unfolding Bp.rounds
    gone_rounds = g.rounds

    pub gone_word : {a : Result (Unit {0}) Refusal} → a ≡ Bp.ended_by r.satisfied → (word x : List ℕ) {new : List ℕ} → hard ≡ take (length word) x → new ≡ written a word (take (length word) x)
        → new ≡ written a word (last_decisions c p metrics known limit)
    gone_word q word x e d =
        let found = last_decisions c p metrics known limit in
        d ∙ ap (λ (y : Result (Unit {0}) Refusal). written y word (take (length word) x)) q
        ∙ written_ended r.satisfied word (λ z. sym e ∙ g.decided z ∙ ap (decisions (tanner_in c p) (Bp.start c p metrics known)) gone_rounds)
        ∙ sym (ap (λ (y : Result (Unit {0}) Refusal). written y word found) q)

    pub gone_posted : {posteriors : List Float} → posteriors ≡ chain c.n (Work.posts w) → posteriors ≡ last_posteriors c p metrics known limit
    gone_posted e =
        e ∙ chain_ext c.n (Work.posts w) (posteriors_after (tanner_in c p) (Bp.start c p metrics known) r.rounds) g.posted
        ∙ ap (λ (k : ℕ). chain c.n (posteriors_after (tanner_in c p) (Bp.start c p metrics known) k)) gone_rounds

-- ---- a call whose tests accepted the code `l` and gave it as `sound`

module _ (l : Held) (h pivots : ℕ) (rest : Bool) (limit : ℕ) {sound : Held} (e : Ok sound ≡ answered (first_of (Bp.tests l.code l.parts h pivots rest limit)) l) where
  came : (first_of (Bp.tests l.code l.parts h pivots rest limit) ≡ None) × (sound ≡ l)
  came = by_ok (first_of (Bp.tests l.code l.parts h pivots rest limit)) l e

  pub came_same : sound ≡ l
  came_same = came.1

  pub came_narrow : 0 < limit → Narrow sound.code.m sound.parts.row
  came_narrow =
      subst (λ (v : Held). 0 < limit → Narrow v.code.m v.parts.row) (sym came.1)
      (narrow limit l.code.m l.parts.row (tests_width l.code l.parts h pivots rest limit came.0))

  pub came_not_wide : 0 < limit → Bp.wide sound.code.m sound.parts.row ≡ false
  came_not_wide =
      subst (λ (v : Held). 0 < limit → Bp.wide v.code.m v.parts.row ≡ false) (sym came.1)
      (not_wide limit l.code.m l.parts.row (tests_width l.code l.parts h pivots rest limit came.0))

  pub came_rest : rest ≡ false
  came_rest = (tests_code l.code l.parts h pivots rest limit came.0).1

  pub came_work : h ≡ 65536
  came_work = (tests_work l.code l.parts h pivots rest limit came.0).0

  -- the rounds' parts have their lengths: vectors as many as were lent, the metrics and the cleared matrix
  pub came_lengths : (matrix : List ℕ) {left : List ℕ} (vectors : List Float) {floats metrics : ℕ} → h ≡ length matrix → left ≡ replicate (length matrix) 0
      → floats ≡ length vectors → length vectors ≡ Work.vectors_length → metrics ≡ l.code.n * 32
      → (floats ≡ Work.vectors_length) × (metrics ≡ sound.code.n * 32) × (length left ≡ 65536)
  came_lengths matrix vectors same cleared many long own = (
    many ∙ long,
    own ∙ ap (λ (v : Held). v.code.n * 32) (sym came_same),
    ap length cleared ∙ length-replicate (length matrix) 0 ∙ sym same ∙ came_work,
  )

  -- what the rounds leave, `a` being the answer
  module _ (metrics : List Float) (known : ℕ) {a : Result (Unit {0}) Refusal} (q : a ≡ Bp.ended_by (Bp.satisfied sound.code sound.parts metrics known limit)) where
    own_answer : a ≡ Bp.ended_by (Bp.satisfied l.code l.parts metrics known limit)
    own_answer = q ∙ ap (λ (v : Held). Bp.ended_by (Bp.satisfied v.code v.parts metrics known limit)) came.1

    pub came_answer : a ≡ answered (first_of (Bp.all_tests l.code l.parts metrics known limit h pivots rest)) tt
    came_answer = own_answer ∙ ended_answer l.code l.parts metrics known limit h pivots rest came.0 (Bp.satisfied l.code l.parts metrics known limit) refl

    pub came_rounds : {k : ℕ} → k ≡ Bp.rounds sound.code sound.parts metrics known limit → k ≡ counted a (Bp.rounds l.code l.parts metrics known limit)
    came_rounds d =
        let n = Bp.rounds l.code l.parts metrics known limit in
        d ∙ ap (λ (v : Held). Bp.rounds v.code v.parts metrics known limit) came.1
        ∙ sym (ap (λ (y : Result (Unit {0}) Refusal). counted y n) q ∙ posted_ended (Bp.satisfied sound.code sound.parts metrics known limit) 0 n)

    pub came_word : (word : List ℕ) {new : List ℕ} → new ≡ written a word (last_decisions sound.code sound.parts metrics known limit) → new ≡ written a word (last_decisions l.code l.parts metrics known limit)
    came_word word d = d ∙ ap (λ (v : Held). written a word (last_decisions v.code v.parts metrics known limit)) came.1

    pub came_posteriors : (given : List Float) {new : List Float} → new ≡ last_posteriors sound.code sound.parts metrics known limit → new ≡ posted a given (last_posteriors l.code l.parts metrics known limit)
    came_posteriors given d =
        let found = last_posteriors l.code l.parts metrics known limit in
        d ∙ ap (λ (v : Held). last_posteriors v.code v.parts metrics known limit) came.1
        ∙ sym (ap (λ (y : Result (Unit {0}) Refusal). posted y given found) q ∙ posted_ended (Bp.satisfied sound.code sound.parts metrics known limit) given found)

-- ---- without the posteriors

pub rest_without : (c : Code) (metrics word vectors : ℕ) → misfit ((metrics, c.n * 32) ∷ (word, c.n) ∷ (vectors, Work.vectors_length) ∷ []) ≡ misfit (own_lengths c metrics word (c.n * 32) vectors)
rest_without c metrics word vectors = rw (eq-eqb (c.n * 32) (c.n * 32) refl) refl
