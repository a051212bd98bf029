-- The calls that decode a frame: `decode_bits_prior_at`, and the forms without a rate, a layout, a fallback or a prior, the same call with rate 0, layout 2, fallback 0 and an empty
-- prior wherever they take none. nb.rs, `decode_bits_prior_at`.
-- Assumes nothing.
use Rattle.std.specs.Prelude.{ℕ, zero, suc, ◌*◌, Bool, List, [], ◌∷◌, ◌++◌, Result, Float, ltb, length}
use Rattle.calls.specs.declared.Refusal.{Refusal}
use Rattle.calls.specs.declared.Refusal.TheVariants.{RateOrLayout, Length}
use Rattle.calls.specs.Refusal.{first_of, answered, misfit}
use Rattle.lent.specs.Held.{Held}
use Rattle.rates.specs.declared.Rate.{Rate}
use Rattle.rates.specs.Rate.{rate_of}
use Rattle.rates.specs.RateCode.{rate_code}
use Rattle.frames.specs.declared.decode.Asked.{Asked}
use Rattle.frames.specs.declared.decode.Fallback.{Fallback}
use Rattle.frames.specs.declared.decode.Fallback.TheVariants.{Bp, List as ByList}
use Rattle.frames.specs.declared.layout.FrameLayout.{FrameLayout}
use Rattle.frames.specs.FrameLayout.{frame_layout}
use Rattle.frames.specs.Found.{frame_metrics, frame_rounds, frame_posteriors, frame_tests, frame_bits}
use Rattle.frames.specs.Work.{words_length, bytes_length}

-- a fallback by its number, and the one of a call that takes none
abbrev pub fallback_of : ℕ → Fallback
fallback_of zero = Bp
fallback_of (suc k) = ByList

abbrev pub default_fallback : ℕ
default_fallback = 0

-- ---- at a rate and in a layout

-- the rate's code for the layout's information set
abbrev pub code_of : Rate → FrameLayout → Held
code_of rate layout = rate_code rate layout.set

-- the metrics with the priors
abbrev pub metrics_of : Rate → FrameLayout → List Float → List Float → List Float
metrics_of rate layout metrics prior = frame_metrics (code_of rate layout) layout.map metrics prior

-- 9 to 11
abbrev pub decode_tests : Rate → FrameLayout → List Float → List Float → Fallback → List (Bool × Refusal)
decode_tests rate layout metrics prior fallback = frame_tests (code_of rate layout) layout.map (metrics_of rate layout metrics prior) prior fallback

-- the bits, the rounds and the last posteriors
unfoldable pub decoded_bits : Rate → FrameLayout → List Float → List Float → List ℕ
decoded_bits rate layout metrics prior = frame_bits (code_of rate layout) layout.map (metrics_of rate layout metrics prior)

unfoldable pub decoded_rounds : Rate → FrameLayout → List Float → List Float → ℕ
decoded_rounds rate layout metrics prior = frame_rounds (code_of rate layout) (metrics_of rate layout metrics prior)

unfoldable pub decoded_posteriors : Rate → FrameLayout → List Float → List Float → List Float
decoded_posteriors rate layout metrics prior = frame_posteriors (code_of rate layout) (metrics_of rate layout metrics prior)

-- ---- by numbers: `metrics`, `bits`, `posteriors`, `words`, `bytes` and `floats` are the parts' lengths

-- the vectors of the rounds, and a frame's metrics: 50,176 + 256 * 32
abbrev pub floats_length : ℕ
floats_length = 58368

-- 1 and 3
abbrev pub decode_refusals : ℕ → ℕ → ℕ → ℕ → ℕ → ℕ → ℕ → ℕ → ℕ → List (Bool × Refusal)
decode_refusals rate layout fallback metrics bits posteriors words bytes floats =
    let n = (rate_of rate).n in
    (ltb 3 rate, RateOrLayout)
    ∷ (ltb 7 layout, RateOrLayout)
    ∷ (ltb 1 fallback, RateOrLayout)
    ∷ (misfit ((metrics, n * 32) ∷ (bits, 256) ∷ (posteriors, n * 32) ∷ (words, words_length) ∷ (bytes, bytes_length) ∷ (floats, floats_length) ∷ []), Length)
    ∷ []

abbrev pub asked_of : ℕ → ℕ → ℕ → Asked
asked_of rate layout fallback = record { rate = rate_of rate; layout = frame_layout layout; fallback = fallback_of fallback }

unfoldable pub decode_answer : ℕ → ℕ → List Float → List Float → ℕ → ℕ → ℕ → ℕ → ℕ → ℕ → Result (Unit {0}) Refusal
decode_answer rate layout metrics prior fallback bits posteriors words bytes floats =
    answered
    (first_of
    (decode_refusals rate layout fallback (length metrics) bits posteriors words bytes floats
    ++ decode_tests (rate_of rate) (frame_layout layout) metrics prior (fallback_of fallback)))
    tt
