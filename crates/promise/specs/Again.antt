-- What is promised of a frame that is decoded and whose bits are encoded again at the same rate and layout, of what the two calls answer and leave. docs/PROMISE.md.
-- Assumes nothing.
use Rattle.std.specs.Prelude.{ℕ, ◌<◌, ◌≤◌, ◌≡◌, ◌⊎◌, List, Ok, Err, Float, length}
use Rattle.lists.specs.Entry.{nth}
use Rattle.calls.specs.declared.Refusal.{Refusal}
use Rattle.calls.specs.Refusal.{number_of, answer_number}
use Rattle.lent.specs.Held.{Held}
use Rattle.lent.specs.LentCode.{graph_of}
use Rattle.words.specs.Encoding.{information_of}
use Rattle.words.specs.Word.{Word}
use Rattle.rounds.specs.ByRounds.{Satisfied, NoneSatisfied, ByRounds}
use Rattle.rounds.specs.Round.{State}
use Rattle.rounds.specs.Rounds.{rounds_made}
use Rattle.rounds.specs.Tanner.{Tanner, tanner_of}
use Rattle.rates.specs.Rate.{rate_of}
use Rattle.decoders.specs.BeliefPropagation.{start}
use Rattle.frames.specs.Decode.{code_of, metrics_of}
use Rattle.frames.specs.FrameLayout.{frame_layout}
use Rattle.promise.specs.declared.again.Answers.{Answers}

-- `long` is the length of the part of tones, and `tones` what stands there afterwards
module _ (rate layout : ℕ) (metrics prior : List Float) (long : ℕ) (found : Answers) (tones : List ℕ) where
  abbrev l : Held
  l = code_of (rate_of rate) (frame_layout layout)

  abbrev positions : List ℕ
  positions = information_of (graph_of l) l.parts.order

  abbrev t : Tanner
  t = tanner_of l

  abbrev s : State
  s = start l.code l.parts (metrics_of (rate_of rate) (frame_layout layout) metrics prior) 52

  -- the bits are handed back by belief propagation
  abbrev Believed : Type 0
  Believed = (found.decoding.answer ≡ Ok tt) × ((r : ℕ) × Satisfied t s 100 r)

  pub record Again : Type 0 where
    pub accepted : long ≡ (rate_of rate).n → Believed → found.encoding ≡ Ok tt
    pub word : long ≡ (rate_of rate).n → Believed → Word (graph_of l) tones
    pub zeros : long ≡ (rate_of rate).n → Believed → (i : ℕ) → 52 ≤ i → i < length positions → nth tones (nth positions i) ≡ 0
    pub rounds : long ≡ (rate_of rate).n → ((r : Refusal) → found.decoding.answer ≡ Err r → number_of r ≡ 10) → ByRounds t s 100 Believed found.decoding.rounds tones
    pub count : ((r : Refusal) → found.decoding.answer ≡ Err r → (number_of r ≡ 10) ⊎ (number_of r ≡ 11)) → found.decoding.rounds ≡ rounds_made t s 100
    pub ten : answer_number found.decoding.answer ≡ 10 → NoneSatisfied t s 100
