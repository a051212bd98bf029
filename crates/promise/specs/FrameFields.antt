-- What is promised of frames, in the words and the order of docs/PROMISE.md.
-- Assumes nothing.
use Rattle.std.specs.Prelude.{ℕ, ◌%◌, ◌<◌, ◌≤◌, ◌≡◌, ◌⊎◌, ◌↔◌, List, Ok, Err, Float, length}
use Rattle.lists.specs.Entry.{nth}
use Rattle.calls.specs.declared.Refusal.{Refusal}
use Rattle.calls.specs.Refusal.{number_of, answer_number}
use Rattle.lent.specs.Held.{Held}
use Rattle.lent.specs.LentCode.{graph_of}
use Rattle.words.specs.Encoding.{information_of}
use Rattle.words.specs.Word.{Word}
use Rattle.rounds.specs.ByRounds.{Satisfied, NoneSatisfied, ByRounds}
use Rattle.rounds.specs.Round.{State}
use Rattle.rounds.specs.Rounds.{rounds_made}
use Rattle.rounds.specs.Tanner.{Tanner, tanner_of}
use Rattle.layouts.specs.Symbols.{own_bits}
use Rattle.rates.specs.Rate.{rate_of}
use Rattle.decoders.specs.BeliefPropagation.{start}
use Rattle.frames.specs.Decode.{code_of, metrics_of}
use Rattle.frames.specs.FrameLayout.{frame_layout}
use Rattle.frames.specs.SlotSymbols.{word_bits}
use Rattle.promise.specs.FrameCalls.{Toned, encode_bits_at, Framed, decode_bits_prior_at}

-- what a frame's decoding is given, and the part of tones for an encoding; posteriors, words, bytes and floats are the lengths of parts
module _ (rate layout fallback : ℕ) (metrics prior : List Float) (bits tones : List ℕ) (posteriors words bytes floats : ℕ) where
  -- the rate's code for the layout's information set
  abbrev l : Held
  l = code_of (rate_of rate) (frame_layout layout)

  abbrev framed : Framed
  framed = decode_bits_prior_at rate layout metrics prior fallback bits posteriors words bytes floats

  -- bits encoded at the same rate and layout, and so those that are handed back
  abbrev toned : List ℕ → Toned
  toned b = encode_bits_at rate layout b tones words bytes

  abbrev again : Toned
  again = toned framed.bits

  abbrev positions : List ℕ
  positions = information_of (graph_of l) l.parts.order

  -- "A call's rounds follow from code, metrics, known count and, in a frame, the priors as its layout's map places them"
  abbrev t : Tanner
  t = tanner_of l

  abbrev s : State
  s = start l.code l.parts (metrics_of (rate_of rate) (frame_layout layout) metrics prior) 52

  -- "An accepted frame's bits are handed back by belief propagation where one of those 100 rounds satisfies all checks"
  abbrev pub Believed : Type 0
  Believed = (framed.answer.answer ≡ Ok tt) × ((r : ℕ) × Satisfied t s 100 r)

  -- the part of tones has its length
  abbrev pub Fits : Type 0
  Fits = length tones ≡ (rate_of rate).n

  pub record FrameFields : Type 0 where
    -- "every word accepted by either decoder is one": the bits of an accepted frame are read from a word, from the list's, too
    pub frame_read : framed.answer.answer ≡ Ok tt → (x : List ℕ) × (Word (graph_of l) x × (framed.bits ≡ own_bits (word_bits l (frame_layout layout).map x)))
    -- "every word accepted by either decoder is one, and belief propagation's is zero at every information position past the known count", "52 in a frame"
    pub frame_words : Fits → Believed → Word (graph_of l) again.tones
    pub frame_zeros : Fits → Believed → (i : ℕ) → 52 ≤ i → i < length positions → nth again.tones (nth positions i) ≡ 0
    -- "Unless refused by a number other than 10" a frame accepts by belief propagation exactly when one of the rounds satisfies all checks. "Bits a frame hands back by belief
    -- propagation, encoded at the same rate and layout, give exactly those decisions"
    pub frame_rounds : Fits → ((r : Refusal) → framed.answer.answer ≡ Err r → number_of r ≡ 10) → ByRounds t s 100 Believed framed.answer.rounds again.tones
    pub frame_tones : Fits → Believed → again.answer ≡ Ok tt
    -- "a frame, limit 100, reports so after acceptance, 10 and 11 alike"
    pub frame_count : ((r : Refusal) → framed.answer.answer ≡ Err r → (number_of r ≡ 10) ⊎ (number_of r ≡ 11)) → framed.answer.rounds ≡ rounds_made t s 100
    -- "Under refusal 10, a frame's too, no round up to the limit satisfies all checks"
    pub frame_ten : answer_number framed.answer.answer ≡ 10 → NoneSatisfied t s 100
    -- "identical notices make identical tones", and no others do: of a bit the lowest counts
    pub frame_notices : (a b : List ℕ) → (toned a).answer ≡ Ok tt → (toned b).answer ≡ Ok tt
        → ((toned a).tones ≡ (toned b).tones) ↔ ((i : ℕ) → i < 256 → nth a i % 2 ≡ nth b i % 2)
