-- What the exports answer that build a code, by what their parts hold, for the clauses of each. Ours.
-- Assumes nothing.
use Rattle.std.specs.Prelude.{ℕ, List, Result, Float, length}
use Rattle.calls.specs.declared.Refusal.{Refusal}
use Rattle.calls.specs.Refusal.{first_of, answered}
use Rattle.graph.specs.declared.Code.{Code}
use Rattle.graph.specs.Parts.{Parts}
use Rattle.rates.specs.Rate.{rate_of}
use Rattle.rates.specs.RateCode.{set_of, rate_code}
use Rattle.rates.specs.CodeAt.{code_at_refusals}
use Rattle.frames.specs.Decode.{decode_answer}
use Rattle.frames.specs.EncodeBits.{encode_bits_refusals}

-- the code's numbers
abbrev pub code_at_answer : ℕ → ℕ → Parts → List ℕ → List ℕ → Result Code Refusal
code_at_answer rate set given words bytes =
    answered (first_of (code_at_refusals rate set given (length words) (length bytes))) (rate_code (rate_of rate) (set_of set)).code

abbrev pub encode_answer : ℕ → ℕ → List ℕ → List ℕ → List ℕ → List ℕ → Result (Unit {0}) Refusal
encode_answer rate layout bits tones words bytes =
    answered (first_of (encode_bits_refusals rate layout (length bits) (length tones) (length words) (length bytes))) tt

abbrev pub frame_answer : ℕ → ℕ → List Float → List Float → ℕ → List ℕ → List Float → List ℕ → List ℕ → List Float → Result (Unit {0}) Refusal
frame_answer rate layout metrics prior fallback bits posteriors words bytes floats =
    decode_answer rate layout metrics prior fallback (length bits) (length posteriors) (length words) (length bytes) (length floats)
