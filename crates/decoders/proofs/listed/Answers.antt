-- `decoders::listed` meets its contract: what the tests leave is what the list's word asks.
use Prim.Native.Nat.{ℕ, ◌*◌}
use mathlib.Core.Path.{◌≡◌, sym, ap, ap₂, ◌∙◌}
use mathlib.Core.Bool.{Bool, false, not, or-false, ◌||◌}
use mathlib.Core.List.{[], ◌∷◌}
use borrow.Author.Tests.{ltb-false}
use lib.Dec.{eqb, ltb}
use lib.ListN.{length, replicate}
use Rattle.lists.proofs.Cases.{neither}
use Rattle.calls.specs.declared.Refusal.TheVariants.{Value}
use Rattle.calls.specs.Refusal.{first_of, answered, misfit}
use Rattle.calls.proofs.Refusals.{alike, by_ok, err_stays, passed_on}
use Rattle.lent.specs.Held.{Held}
use Rattle.lent.specs.LentCode.{code_refusals}
use Rattle.lent.proofs.SoundCode.{passed, work_fits}
use Rattle.decoders.specs.ListDecode.{list_lengths, unlistable}
use Rattle.decoders.proofs.listed.Goals.{After-accepted}
use Rattle.decoders.proofs.listed.Goals as goal

module _ (c : After-accepted) where
  abbrev held : Held
  held = c.args.code.now

  abbrev rest_of : Held → Bool
  rest_of v = let a = c.args in misfit (list_lengths v.code (length a.metrics.now) (length a.posteriors.now) (length a.word.now))

  -- whether a part of the call's own has a wrong length, as the code has it
  abbrev asked : Bool
  asked = c.misfit.result || (c.misfit-2.result || not (eqb (length c.args.word.now) c.code.inside.numbers.n))

  asked_is : asked ≡ rest_of held
  asked_is =
      ap₂ ◌||◌ c.misfit.ensures (ap₂ ◌||◌ c.misfit-2.ensures (sym (or-false (not (eqb (length c.args.word.now) c.code.inside.numbers.n)))))
      ∙ ap rest_of c.code.view_is

  -- the tests' answer with it
  answer_is : answered (first_of (code_refusals held.code held.parts (length c.args.h.now) (length c.args.pivots.now) asked)) held
      ≡ answered (first_of (code_refusals held.code held.parts (length c.args.h.now) (length c.args.pivots.now) (rest_of held))) held
  answer_is = ap (λ (b : Bool). answered (first_of (code_refusals held.code held.parts (length c.args.h.now) (length c.args.pivots.now) b)) held) asked_is

pub returns-in_err-sound-clause-answer : goal.returns-in_err-sound-clause-answer
returns-in_err-sound-clause-answer c =
    let r = (goal.at.returns-in_err-sound-clause-answer c).After-accepted in
    let a = c.args in
    let l = held r in
    passed_on c.from_residual.ensures
    ∙ err_stays (code_refusals l.code l.parts (length a.h.now) (length a.pivots.now) (rest_of r l)) ((unlistable a.posteriors.now a.width, Value) ∷ []) l tt
    (c.in_err-sound.ensures.answer ∙ answer_is r)

pub run-requires : goal.run-requires
run-requires c =
    let r = (goal.at.run-requires c).After-accepted in
    let a = c.args in
    let l = held r in
    let h = length a.h.now in
    let pivots = length a.pivots.now in
    let e = by_ok (first_of (code_refusals l.code l.parts h pivots (rest_of r l))) l (c.in_ok-sound.ensures.answer ∙ answer_is r) in
    let n = ap (λ (v : Held). v.code.n) (sym e.1) in
    let f = (alike (list_lengths l.code (length a.metrics.now) (length a.posteriors.now) (length a.word.now)) false (passed l.code l.parts h pivots (rest_of r l) e.0).1).0 in
    let q = neither (ltb 16 a.width) c.not_finite.result c.if-width-not_finite.false in record {
      metrics_long = f.0 ∙ ap (λ (k : ℕ). k * 32) n;
      posteriors_long = f.1.0 ∙ ap (λ (k : ℕ). k * 32) n;
      word_long = f.1.1.0 ∙ n;
      blank = c.in_ok-sound.ensures.h_after ∙ ap (λ (k : ℕ). replicate k 0) (work_fits l.code l.parts h pivots (rest_of r l) e.0).0;
      width_small = ltb-false 16 a.width q.0;
    }
