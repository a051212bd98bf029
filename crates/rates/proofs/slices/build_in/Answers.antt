-- `rates::slices::build_in` meets its contract: the parts that were cut stand one after another.
use mathlib.Core.Path.{ap}
use Rattle.rates.specs.Slices.{code_words, code_bytes}
use Rattle.rates.proofs.slices.build_in.Goals as goal

pub returns-clause-words_after : goal.returns-clause-words_after
unfolding code_words
returns-clause-words_after c = ap code_words c.build.ensures.code_after

pub returns-clause-bytes_after : goal.returns-clause-bytes_after
unfolding code_bytes
returns-clause-bytes_after c = ap code_bytes c.build.ensures.code_after
