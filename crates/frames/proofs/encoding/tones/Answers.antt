-- `frames::encoding::tones` meets its contract.
use mathlib.Core.Path.{ap, ◌∙◌}
use Rattle.layouts.specs.Layout.{Layout}
use Rattle.layouts.specs.Symbols.{symbols_of}
use Rattle.words.specs.Encode.{encoded}
use Rattle.frames.specs.Tones.{tones_in}
use Rattle.frames.proofs.encoding.tones.Goals as goal

pub returns : goal.returns
unfolding tones_in
returns c = c.encode_by.ensures ∙ ap (encoded c.args.code.now) (c.symbols_of-syms.ensures ∙ ap (λ (t : Layout). symbols_of t c.args.bits.now) c.tables.ensures)
