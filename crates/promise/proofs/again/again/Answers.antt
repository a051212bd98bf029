-- `promise::again::again` meets its contract: by the clauses of the two calls, whose work parts keep their lengths.
use mathlib.Core.Path.{ap₂, ◌∙◌}
use lib.ListN.{length}
use Rattle.std.specs.Prelude.{ℕ}
use Rattle.promise.specs.FrameCalls.{encode_bits_at}
use Rattle.promise.proofs.AgainHolds.{again_holds}
use Rattle.promise.proofs.Given.{encode_bits_given, decode_bits_given}
use Rattle.promise.proofs.again.again.Goals as goal

pub returns-clause-promised : goal.returns-clause-promised
returns-clause-promised c =
    let a = c.args in
    let d = c.decode_bits_prior_at-decoding in
    let e = c.encode_bits_at-encoding in
    again_holds a.rate a.layout a.fallback a.metrics.now a.prior.now a.bits.now a.tones.now (length a.posteriors.now) (length a.words.now) (length a.bytes.now) (length a.floats.now)
    (record { answer = d.result; bits = d.new.bits }) (record { answer = e.result; tones = e.new.tones })
    (decode_bits_given a.rate a.layout a.metrics.now a.prior.now a.fallback a.bits.now (length a.posteriors.now) (length a.words.now) (length a.bytes.now) (length a.floats.now)
    d.ensures.answer d.ensures.rounds d.ensures.bits_after)
    (encode_bits_given a.rate a.layout d.new.bits a.tones.now (length d.new.words) (length d.new.bytes) e.ensures.answer e.ensures.tones_after
    ∙ ap₂ (λ (w b : ℕ). encode_bits_at a.rate a.layout d.new.bits a.tones.now w b) d.auto.words d.auto.bytes)
