-- What is promised of a frame's decoding, of a code and a map. As promised (docs/PROMISE.md): "Bits a frame hands back by belief propagation, encoded at the same rate and layout, give
-- exactly those decisions. Under refusal 10, a frame's too, no round up to the limit satisfies all checks."
-- Assumes nothing.
use Rattle.std.specs.Prelude.{ℕ, ◌<◌, ◌≤◌, ◌≡◌, true, false, List, Result, Ok, Err, Float}
use Rattle.calls.specs.declared.Refusal.{Refusal}
use Rattle.calls.specs.declared.Refusal.TheVariants.{NoWord}
use Rattle.calls.specs.Refusal.{first_of, answered}
use Rattle.lent.specs.Held.{Held}
use Rattle.lent.specs.LentCode.{graph_of}
use Rattle.words.specs.Word.{Word}
use Rattle.layouts.specs.declared.BitMap.{BitMap}
use Rattle.rounds.specs.Round.{State}
use Rattle.rounds.specs.Rounds.{decisions, satisfies}
use Rattle.rounds.specs.Tanner.{Tanner, tanner_in}
use Rattle.decoders.specs.BeliefPropagation.{start}
use Rattle.frames.specs.declared.decode.Fallback.{Fallback}
use Rattle.frames.specs.Found.{frame_metrics, frame_satisfied, frame_rounds, asks_list, frame_word, frame_tests, frame_bits}
use Rattle.frames.specs.Tones.{tones_in}

module _ (l : Held) (map : BitMap) (metrics prior : List Float) (fallback : Fallback) where
  -- the metrics with the priors, and the rounds on them
  abbrev m : List Float
  m = frame_metrics l map metrics prior

  abbrev t : Tanner
  t = tanner_in l.code l.parts

  abbrev s : State
  s = start l.code l.parts m 52

  -- what the call answers after refusals 1 and 3
  abbrev answer : Result (Unit {0}) Refusal
  answer = answered (first_of (frame_tests l map m prior fallback)) tt

  pub record FrameDecodes : Type 0 where
    -- where one of the 100 rounds satisfies all checks, the count is that of the first, and the word is its decisions
    pub counts : frame_satisfied l m ≡ true → (1 ≤ frame_rounds l m) × (frame_rounds l m ≤ 100) × (satisfies t s (frame_rounds l m) ≡ true)
    pub earliest : frame_satisfied l m ≡ true → (q : ℕ) → 1 ≤ q → q < frame_rounds l m → satisfies t s q ≡ false
    pub decided : frame_satisfied l m ≡ true → frame_word l m ≡ decisions t s (frame_rounds l m)
    -- bits that are then handed back, encoded at the same rate and layout, give exactly those decisions
    pub again : frame_satisfied l m ≡ true → answer ≡ Ok tt → tones_in l map (frame_bits l map m) ≡ decisions t s (frame_rounds l m)
    -- where none does, the count is 100
    pub none : frame_satisfied l m ≡ false → (frame_rounds l m ≡ 100) × ((q : ℕ) → 1 ≤ q → q ≤ 100 → satisfies t s q ≡ false)
    -- 10 says that none does; so do bits that the list hands back, and then there is a prior
    pub ten : answer ≡ Err NoWord → frame_satisfied l m ≡ false
    pub listed : answer ≡ Ok tt → frame_satisfied l m ≡ false → asks_list fallback prior ≡ true
    -- either way the word is a word
    pub word : Word (graph_of l) (frame_word l m)
