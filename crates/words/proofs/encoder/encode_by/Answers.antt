-- `words::encoder::encode_by` meets its contract: a sound code's parts are an encoder's.
use Prim.Native.Nat.{ℕ}
use mathlib.Core.Path.{ap₂, ◌∙◌}
use native.Mathlib.Omega.{arith}
use lib.ListN.{length}
use Rattle.words.specs.EncoderParts.{encoded_by}
use Rattle.words.proofs.LentWords.{positions-length, EncoderParts-sound, encoded_is}
use Rattle.words.proofs.encoder.encode_by.Goals as goal

pub encode-requires : goal.encode-requires
encode-requires c =
    let w = (rw (← c.lent.view_is) at c.code.invariant).sound in
    let i = c.lent.inside in
    let k = rw (← c.code.view_is, ← c.lent.view_is) at c.count-k.ensures in
    let r = rw (← c.code.view_is, ← c.lent.view_is) at c.requires in
    (rw (k ∙ positions-length _ _ w) (EncoderParts-sound _ _ w (length c.args.word.now) r.0), omega (arith, k, r.1))

pub returns : goal.returns
returns c =
    let w = (rw (← c.lent.view_is) at c.code.invariant).sound in
    let i = c.lent.inside in
    let k = rw (← c.code.view_is, ← c.lent.view_is) at c.count-k.ensures in
    let r = rw (← c.code.view_is, ← c.lent.view_is) at c.requires in
    rw (← c.code.view_is, ← c.lent.view_is)
    (c.encode.ensures
    ∙ ap₂ (λ (n k : ℕ). encoded_by n i.numbers.rank k i.parity.now i.info.now i.a.now c.args.syms.now) r.0 (k ∙ positions-length _ _ w)
    ∙ encoded_is _ _ w c.args.syms.now (omega (arith, r.1, positions-length _ _ w)))
