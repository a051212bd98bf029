-- `decoders::belief_propagation::propagate` meets its contract: what going on leaves is what the definitions say.
use Prim.Native.Nat.{ℕ}
use mathlib.Core.Path.{sym, ap, ◌∙◌}
use lib.ListN.{take}
use Rattle.decoders.proofs.DecodingEnds.{gone_answer, gone_rounds, gone_word, gone_posted}
use Rattle.decoders.proofs.ReadyCode.{not_wide_narrow}
use Rattle.decoders.proofs.belief_propagation.propagate.Goals as goal

pub run-ended-requires-clause-narrow : goal.run-ended-requires-clause-narrow
run-ended-requires-clause-narrow c = λ h. not_wide_narrow _ _ (c.requires.narrow h)

pub returns-clause-answer : goal.returns-clause-answer
returns-clause-answer c = gone_answer _ _ _ _ _ c.run-ended.ensures c.finish.ensures.answer

pub returns-clause-rounds : goal.returns-clause-rounds
returns-clause-rounds c = c.finish.ensures.rounds ∙ gone_rounds _ _ _ _ _ c.run-ended.ensures

pub returns-clause-word_after : goal.returns-clause-word_after
returns-clause-word_after c =
    gone_word _ _ _ _ _ c.run-ended.ensures c.finish.ensures.answer c.args.word.now c.run-ended.new.h (ap (λ (k : ℕ). take k c.run-ended.new.h) (sym c.requires.outputs.0)) c.finish.ensures.word_after

pub returns-clause-posteriors_after : goal.returns-clause-posteriors_after
returns-clause-posteriors_after c =
    gone_posted _ _ _ _ _ c.run-ended.ensures (rw (← c.code.view_is, ← c.lent.view_is) c.copy_posteriors.ensures)
