-- `frames::found::find_word` meets its contract: the list is asked where no round satisfies all checks.
use Prim.Native.Nat.{ℕ}
use mathlib.Core.Path.{sym, ap, ◌∙◌}
use mathlib.Core.List.{List}
use lib.Ieee.{Float}
use lib.ListN.{replicate}
use Rattle.lists.proofs.Cases.{both}
use Rattle.lent.specs.LentCode.{graph_of}
use Rattle.candidates.specs.ListWord.{list_word}
use Rattle.frames.specs.Found.{frame_satisfied, frame_word}
use Rattle.frames.proofs.Endings.{unsatisfied, word_by_rounds, word_by_list}
use Rattle.frames.proofs.found.find_word.Goals as goal

pub run-requires-clause-blank : goal.run-requires-clause-blank
run-requires-clause-blank c = c.propagate-decoding.ensures.h_after ∙ ap (λ (k : ℕ). replicate k 0) c.requires.lengths.2

pub returns-then-list_asked-is_err-clause-word_after : goal.returns-then-list_asked-is_err-clause-word_after
unfolding frame_word
returns-then-list_asked-is_err-clause-word_after c =
    let l = c.args.code.now in
    let m = c.args.metrics.now in
    let left = c.propagate-decoding.ensures in
    let failed = (both c.args.list_asked c.is_err.result c.if-list_asked-is_err.true).1 in
    c.run.ensures ∙ ap (λ (p : List Float). list_word (graph_of l) l.parts.order p m 10) left.posteriors_after
    ∙ word_by_list (frame_satisfied l m) _ _ (unsatisfied (frame_satisfied l m) left.answer (sym c.is_err.ensures.value ∙ failed))

pub returns-clause-word_after : goal.returns-clause-word_after
unfolding frame_word
returns-clause-word_after c =
    let left = c.propagate-decoding.ensures in
    left.word_after ∙ word_by_rounds (frame_satisfied c.args.code.now c.args.metrics.now) c.args.word.now _ _ left.answer
