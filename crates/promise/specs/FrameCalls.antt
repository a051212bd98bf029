-- What the calls on rates and frames answer and leave, by the clauses of their contracts. The forms without a rate, a layout, a fallback or a prior have the same clauses at
-- rate 0, layout 2, fallback 0 and no prior.
-- Assumes nothing.
use Rattle.std.specs.Prelude.{ℕ, ◌≡◌, List, Result, Ok, Float, length}
use Rattle.calls.specs.declared.Refusal.{Refusal}
use Rattle.calls.specs.Refusal.{first_of, answered}
use Rattle.calls.specs.Parts.{written, counted}
use Rattle.graph.specs.declared.Code.{Code}
use Rattle.graph.specs.Parts.{Parts}
use Rattle.lent.specs.Held.{Held}
use Rattle.rates.specs.CodeAt.{code_at_refusals}
use Rattle.rates.specs.Rate.{rate_of}
use Rattle.rates.specs.RateCode.{set_of, rate_code}
use Rattle.decoders.specs.declared.Decoding.{Decoding}
use Rattle.frames.specs.Decode.{decode_answer, decoded_bits, decoded_rounds}
use Rattle.frames.specs.EncodeBits.{encode_bits_refusals}
use Rattle.frames.specs.FrameLayout.{frame_layout}
use Rattle.frames.specs.Tones.{tones_of}

-- what code_at answers, which is lent the parts p; words and bytes are the lengths of the work parts
abbrev pub code_at_answer : ℕ → ℕ → Parts → ℕ → ℕ → Result Code Refusal
code_at_answer rate set p words bytes = answered (first_of (code_at_refusals rate set p words bytes)) (rate_code (rate_of rate) (set_of set)).code

-- it answers the numbers of the code d, and leaves its parts
pub record CodeAt (rate set : ℕ) (p : Parts) (words bytes : ℕ) (d : Held) : Type 0 where
  pub accepts : code_at_answer rate set p words bytes ≡ Ok d.code
  pub leaves : written (code_at_answer rate set p words bytes) p (rate_code (rate_of rate) (set_of set)).parts ≡ d.parts

-- what encode_bits_at answers and leaves; words and bytes are the lengths of the work parts
pub record Toned : Type 0 where
  pub answer : Result (Unit {0}) Refusal
  pub tones : List ℕ

unfoldable pub encode_bits_at : ℕ → ℕ → List ℕ → List ℕ → ℕ → ℕ → Toned
encode_bits_at rate layout bits tones words bytes =
    let a : Result (Unit {0}) Refusal = answered (first_of (encode_bits_refusals rate layout (length bits) (length tones) words bytes)) tt in
    record { answer = a; tones = written a tones (tones_of (rate_of rate) (frame_layout layout) bits) }

-- what decode_bits_prior_at answers and leaves, but for the posteriors; posteriors, words, bytes and floats are the parts' lengths
pub record Framed : Type 0 where
  pub answer : Decoding
  pub bits : List ℕ

unfoldable pub decode_bits_prior_at : ℕ → ℕ → List Float → List Float → ℕ → List ℕ → ℕ → ℕ → ℕ → ℕ → Framed
decode_bits_prior_at rate layout metrics prior fallback bits posteriors words bytes floats =
    let a : Result (Unit {0}) Refusal = decode_answer rate layout metrics prior fallback (length bits) posteriors words bytes floats in
    record {
      answer = record { answer = a; rounds = counted a (decoded_rounds (rate_of rate) (frame_layout layout) metrics prior) };
      bits = written a bits (decoded_bits (rate_of rate) (frame_layout layout) metrics prior);
    }
