-- The calls encode_bits_at, encode_bits_with and encode_bits: a frame's 256 bits as the tones of a rate's code, into a part of n. The forms without a rate or a
-- layout are the same call with rate 0 and layout 2. nb.rs, `encode_bits_at`.
-- Assumes nothing.
use Rattle.std.specs.Prelude.{ℕ, Bool, List, [], ◌∷◌, ltb}
use Rattle.calls.specs.declared.Refusal.{Refusal}
use Rattle.calls.specs.declared.Refusal.TheVariants.{RateOrLayout, Length}
use Rattle.calls.specs.Refusal.{misfit}
use Rattle.rates.specs.Rate.{rate_of}
use Rattle.frames.specs.Work.{words_length, bytes_length}

abbrev pub default_rate : ℕ
default_rate = 0

abbrev pub default_layout : ℕ
default_layout = 2

-- `bits`, `tones`, `words` and `bytes` are the parts' lengths. Of each bit the lowest counts, so no value is refused
abbrev pub encode_bits_refusals : ℕ → ℕ → ℕ → ℕ → ℕ → ℕ → List (Bool × Refusal)
encode_bits_refusals rate layout bits tones words bytes =
    (ltb 3 rate, RateOrLayout)
    ∷ (ltb 7 layout, RateOrLayout)
    ∷ (misfit ((bits, 256) ∷ (tones, (rate_of rate).n) ∷ (words, words_length) ∷ (bytes, bytes_length) ∷ []), Length)
    ∷ []
