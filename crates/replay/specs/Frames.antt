-- What the calls that encode and decode a frame answer, by the numbers that a line lists. Ours.
-- Assumes nothing.
use Rattle.std.specs.Prelude.{ℕ, List, [], ◌∷◌, Result, Float, if◌then◌else◌, length, map, replicate}
use Rattle.std.specs.Float.Ieee.{is_nan, of_bits, to_bits, binary32}
use Rattle.calls.specs.declared.Refusal.{Refusal}
use Rattle.calls.specs.Refusal.{first_of, answered, answer_number}
use Rattle.calls.specs.Parts.{written, posted, counted}
use Rattle.rates.specs.Rate.{rate_of}
use Rattle.frames.specs.Decode.{floats_length, decode_answer, decoded_bits, decoded_rounds, decoded_posteriors}
use Rattle.frames.specs.EncodeBits.{encode_bits_refusals}
use Rattle.frames.specs.FrameLayout.{frame_layout}
use Rattle.frames.specs.Tones.{tones_of}
use Rattle.frames.specs.Work.{words_length, bytes_length}
use Rattle.replay.specs.Digest.{digest_of}

-- the tones go into a part of `room` entries
abbrev pub encode_bits_answer : ℕ → ℕ → List ℕ → ℕ → Result (Unit {0}) Refusal
encode_bits_answer rate layout bits room = answered (first_of (encode_bits_refusals rate layout (length bits) room words_length bytes_length)) tt

abbrev pub encoded_frame : ℕ → ℕ → List ℕ → ℕ → List ℕ
encoded_frame rate layout bits room =
    let answer = encode_bits_answer rate layout bits room in
    answer_number answer ∷ digest_of (written answer (replicate room 1) (tones_of (rate_of rate) (frame_layout layout) bits)) ∷ []

-- as many posteriors as metrics
abbrev pub decode_bits_answer : ℕ → ℕ → List Float → List Float → ℕ → Result (Unit {0}) Refusal
decode_bits_answer rate layout metrics prior fallback = decode_answer rate layout metrics prior fallback 256 (length metrics) words_length bytes_length floats_length

abbrev pub decoded_frame : ℕ → ℕ → List Float → List Float → ℕ → List ℕ
decoded_frame rate layout metrics prior fallback =
    let answer = decode_bits_answer rate layout metrics prior fallback in
    answer_number answer
    ∷ counted answer (decoded_rounds (rate_of rate) (frame_layout layout) metrics prior)
    ∷ digest_of (written answer (replicate 256 1) (decoded_bits (rate_of rate) (frame_layout layout) metrics prior))
    ∷ digest_of
    (map (λ x. if is_nan x then 2143289344 else to_bits binary32 x)
    (posted answer (replicate (length metrics) (of_bits binary32 1065353216)) (decoded_posteriors (rate_of rate) (frame_layout layout) metrics prior)))
    ∷ []
