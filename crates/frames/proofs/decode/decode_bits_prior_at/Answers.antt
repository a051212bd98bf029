-- `frames::decode::decode_bits_prior_at` meets its contract: the tests decide, and then the decoding at the rate and in the layout.
use mathlib.Core.Path.{sym, ap, ◌∙◌}
use lib.ListN.{length}
use Rattle.std.specs.Prelude.{Option}
use Rattle.calls.specs.declared.Refusal.{Refusal}
use Rattle.calls.specs.Refusal.{first_of, answered}
use Rattle.calls.proofs.Refusals.{by_ok, err_stays, second}
use Rattle.rates.specs.Rate.{rate_of}
use Rattle.frames.specs.FrameLayout.{frame_layout}
use Rattle.frames.specs.declared.decode.Asked.{Asked}
use Rattle.frames.specs.Decode.{fallback_of, decode_refusals, decode_tests, asked_of, decode_answer}
use Rattle.frames.proofs.Accepted.{asked_rate}
use Rattle.frames.proofs.decode.decode_bits_prior_at.Goals as goal

pub decode-decoding-requires-clause-is_rate : goal.decode-decoding-requires-clause-is_rate
decode-decoding-requires-clause-is_rate c =
    let a = c.args in
    asked_rate a.rate a.layout a.fallback (length a.metrics.now) (length a.bits.now) (length a.posteriors.now) (length a.words.now) (length a.bytes.now) (length a.floats.now) c.in-Ok.ensures

pub returns-in-Err-clause-answer : goal.returns-in-Err-clause-answer
unfolding decode_answer
returns-in-Err-clause-answer c =
    let a = c.args in
    err_stays (decode_refusals a.rate a.layout a.fallback (length a.metrics.now) (length a.bits.now) (length a.posteriors.now) (length a.words.now) (length a.bytes.now) (length a.floats.now))
    (decode_tests (rate_of a.rate) (frame_layout a.layout) a.metrics.now a.prior.now (fallback_of a.fallback)) (asked_of a.rate a.layout a.fallback) tt c.in-Err.ensures

pub returns-in-Ok-clause-answer : goal.returns-in-Ok-clause-answer
unfolding decode_answer
returns-in-Ok-clause-answer c =
    let a = c.args in
    let own = decode_refusals a.rate a.layout a.fallback (length a.metrics.now) (length a.bits.now) (length a.posteriors.now) (length a.words.now) (length a.bytes.now) (length a.floats.now) in
    let b = by_ok (first_of own) (asked_of a.rate a.layout a.fallback) c.in-Ok.ensures in
    c.decode-decoding.ensures.answer
    ∙ ap (λ (x : Asked). answered (first_of (decode_tests x.rate x.layout a.metrics.now a.prior.now x.fallback)) tt) b.1
    ∙ ap (λ (t : Option Refusal). answered t tt) (sym (second own (decode_tests (rate_of a.rate) (frame_layout a.layout) a.metrics.now a.prior.now (fallback_of a.fallback)) b.0))
