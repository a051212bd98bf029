-- What is promised of belief propagation beside Propagates (docs/PROMISE.md), of the call with posteriors: it "accepts exactly when one of the rounds up to the limit satisfies
-- all checks; its word is the decisions of the first that does, and the reported count is that round's". And what the posteriors are.
-- Assumes nothing.
use Rattle.std.specs.Prelude.{ℕ, ◌+◌, ◌*◌, ◌<◌, ◌≤◌, ◌≡◌, ◌≢◌, Bool, true, false, T, List, None, Ok, Err, Float, length}
use Rattle.lists.specs.Entry.{nth}
use Rattle.calls.specs.declared.Refusal.TheVariants.{NoWord}
use Rattle.calls.specs.Refusal.{first_of, misfit}
use Rattle.graph.specs.declared.Code.{Code}
use Rattle.graph.specs.Parts.{Parts}
use Rattle.lent.specs.Misencoded.{graph_in}
use Rattle.words.specs.Encoding.{information_of}
use Rattle.words.specs.Word.{Word}
use Rattle.vectors.specs.Fine.{fine, Fine}
use Rattle.vectors.specs.Vector.{at}
use Rattle.rounds.specs.Tanner.{Tanner, tanner_in}
use Rattle.rounds.specs.Round.{State}
use Rattle.rounds.specs.Rounds.{posteriors_after, decisions, satisfies}
use Rattle.decoders.specs.BeliefPropagation.{start, tests}
use Rattle.decoders.specs.DecodeSoft.{DecodedSoft, own_lengths, decode_soft}

module _ (c : Code) (p : Parts) (metrics : List Float) (known limit : ℕ) (word : List ℕ) (given : List Float) (matrix pivots vectors : ℕ) where
  -- what the call gives, matrix, pivots and vectors being the lengths of the work parts
  abbrev d : DecodedSoft
  d = decode_soft c p metrics known limit word given matrix pivots vectors

  -- the graph, and the state from which rounds are made
  abbrev t : Tanner
  t = tanner_in c p

  abbrev s : State
  s = start c p metrics known

  abbrev positions : List ℕ
  positions = information_of (graph_in c p) p.order

  -- whether one of the call's own parts has a wrong length
  abbrev rest : Bool
  rest = misfit (own_lengths c (length metrics) (length word) (length given) vectors)

  -- the numbers 2 to 9 do not turn the call down
  abbrev pub ComesToRounds : Type 0
  ComesToRounds = first_of (tests c p matrix pivots rest limit) ≡ None

  pub record Decodes : Type 0 where
    -- it accepts where a round up to the limit satisfies all checks
    pub accepts : (r : ℕ) → 1 ≤ r → r ≤ limit → satisfies t s r ≡ true → d.answer.answer ≡ Ok tt
    -- and only there; the count is that of the first such round
    pub counts : d.answer.answer ≡ Ok tt → (1 ≤ d.answer.rounds) × (d.answer.rounds ≤ limit) × (satisfies t s d.answer.rounds ≡ true)
    pub earliest : d.answer.answer ≡ Ok tt → (q : ℕ) → 1 ≤ q → q < d.answer.rounds → satisfies t s q ≡ false
    -- the word is that round's decisions, and a word of the code
    pub decided : d.answer.answer ≡ Ok tt → d.word ≡ decisions t s d.answer.rounds
    pub is_word : d.answer.answer ≡ Ok tt → Word (graph_in c p) d.word
    -- zero at every information position past the known count
    pub zeros : d.answer.answer ≡ Ok tt → (i : ℕ) → known ≤ i → i < length positions → nth d.word (nth positions i) ≡ 0
    -- otherwise the number is 10, the count is the limit, no round up to it satisfies all checks, and the word part is as it was
    pub refused : d.answer.answer ≢ Ok tt → (d.answer.answer ≡ Err NoWord) × (d.answer.rounds ≡ limit) × (d.word ≡ word)
    pub none : d.answer.answer ≢ Ok tt → (q : ℕ) → 1 ≤ q → q ≤ limit → satisfies t s q ≡ false
    -- either way the posteriors are finite and not negative
    pub finite : (v x : ℕ) → v < c.n → x < 32 → T (fine (at d.posteriors (v * 32 + x)))
    -- and so they are in every round, in which a known zero is decided 0
    pub rounds_finite : (r v : ℕ) → Fine (posteriors_after t s r v)
    pub rounds_zeros : (r i : ℕ) → known ≤ i → i < length positions → nth (decisions t s r) (nth positions i) ≡ 0
