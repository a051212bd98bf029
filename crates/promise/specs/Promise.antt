-- The promise of all calls as one claim "over all codes, metrics, priors, known counts, limits and rounds together", in the words and the order of docs/PROMISE.md. What is
-- said here of a call is said of the terms that its contract equates its answer and its parts with.
-- Assumes nothing.
use Rattle.std.specs.Prelude.{ℕ, ◌≡◌, ◌↔◌, true, List, Ok, Float, ℤ, length}
use Rattle.elimination.specs.Graph.{Graph}
use Rattle.graph.specs.New.{Work}
use Rattle.graph.specs.Parts.{Parts}
use Rattle.lent.specs.Held.{Held}
use Rattle.lent.specs.LentCode.{NotRefused, graph_of}
use Rattle.words.specs.Linear.{sum_of, multiple_of}
use Rattle.words.specs.Word.{Symbols, Word}
use Rattle.rounds.specs.Round.{State}
use Rattle.decoders.specs.BeliefPropagation.{start}
use Rattle.decoders.specs.Decode.{Decoded, decode}
use Rattle.decoders.specs.DecodeSoft.{DecodedSoft, decode_soft}
use Rattle.decoders.specs.ListDecode.{ListDecoded, list_decode}
use Rattle.decoders.specs.Propagates.{Propagates}
use Rattle.promise.specs.Calls.{Builds, Fit, Encodes, OwnEncoding, checks_ok_answer, Peels}
use Rattle.promise.specs.FrameCalls.{CodeAt}
use Rattle.promise.specs.FrameFields.{FrameFields}

module _
    -- a lent code; what belief propagation and the list decoder are given
    (l : Held) (metrics : List Float) (known limit : ℕ) (likely : List Float) (width : ℕ)
    -- what a frame's decoding is given beside metrics
    (rate layout fallback : ℕ) (prior : List Float)
    -- the lent parts, of work parts their lengths
    (word symbols bits tones : List ℕ) (posteriors : List Float) (h pivots vectors words_given bytes_given floats_given : ℕ) where
  -- the code's graph, whose words are "n symbols below 32 that satisfy all" checks
  abbrev g : Graph
  g = graph_of l

  -- what the calls accept and answer, with these parts
  abbrev Encoding : List ℕ → List ℕ → Type 0
  Encoding = Encodes l h pivots word

  abbrev Own : List ℕ → Type 0
  Own = OwnEncoding l h pivots word symbols

  -- what the decoders answer and leave, and the state from which the rounds are made
  abbrev soft : DecodedSoft
  soft = decode_soft l.code l.parts metrics known limit word posteriors h pivots vectors

  abbrev hard : Decoded
  hard = decode l.code l.parts metrics known limit word h pivots vectors

  abbrev listed : ListDecoded
  listed = list_decode l.code l.parts metrics likely width word h pivots

  abbrev begun : State
  begun = start l.code l.parts metrics known

  pub record Promise : Type 0 where
    -- a code "not refused" is built or lent: every code that `new` answers is one
    pub built : (n m seed : ℕ) (degrees : List ℕ) (given : Parts) (work : Work) (d : Held) → Builds n m seed degrees given work d → NotRefused d.code d.parts
    -- "Over every code not refused, any n symbols below 32 satisfy all checks exactly when they are the encoding of their own information symbols"
    pub words : NotRefused l.code l.parts → Fit l.code.n word symbols h pivots → (x : List ℕ) → Symbols l.code.n x → Word g x ↔ Own x
    -- and exactly when checks_ok says so
    pub checks : NotRefused l.code l.parts → Fit l.code.n word symbols h pivots → (x : List ℕ) → Symbols l.code.n x → Word g x ↔ (checks_ok_answer l h pivots x ≡ Ok true)
    -- "sums and field multiples of such words are such words"
    pub sums : (x y : List ℕ) → Word g x → Word g y → Word g (sum_of x y)
    pub multiples : (f : ℕ) (x : List ℕ) → Word g x → Word g (multiple_of f x)
    -- the encoder is linear, for symbols of any two lengths
    pub linear_sums : (u v x y : List ℕ) → Encoding u x → Encoding v y → Encoding (sum_of u v) (sum_of x y)
    pub linear_multiples : (f : ℕ) (u x : List ℕ) → Encoding u x → Encoding (multiple_of f u) (multiple_of f x)
    -- "and both information sets of a rate have the same ones": of every code d that with_peeled_info makes of this one
    pub peeled : Fit l.code.n word symbols h pivots → (prefer : List ℤ) (d : Held) → Peels l h pivots prefer d
        → (x : List ℕ) → Symbols l.code.n x → Own x ↔ OwnEncoding d h pivots word symbols x
    -- of a rate: of every two codes that code_at makes of it
    pub sets : (s t w b : ℕ) (p q : Parts) (d e : Held) → CodeAt rate s p w b d → CodeAt rate t q w b e
        → Fit d.code.n word symbols h pivots → (x : List ℕ) → Symbols d.code.n x → OwnEncoding d h pivots word symbols x ↔ OwnEncoding e h pivots word symbols x
    -- "Whatever the metrics and priors, NaN and infinity included, and whatever the known count and limit: every word accepted by either decoder is one"
    pub list_words : listed.answer.answer ≡ Ok tt → Word g listed.word
    -- "and belief propagation's is zero at every information position past the known count. Unless refused by a number other than 10, belief propagation accepts exactly when
    -- one of the rounds up to the limit satisfies all checks; its word is the decisions of the first that does, and the reported count is that round's. .. Under
    -- refusal 10 .. no round up to the limit satisfies all checks", of both calls
    pub soft_rounds : Propagates l.code l.parts begun known limit soft.answer.answer soft.answer.rounds soft.word
    pub hard_rounds : Propagates l.code l.parts begun known limit hard.answer.answer hard.answer.rounds hard.word
    -- the same of a frame, and "Bits a frame hands back by belief propagation, encoded at the same rate and layout, give exactly those decisions"
    pub frames : FrameFields rate layout fallback metrics prior bits tones (length posteriors) words_given bytes_given floats_given

-- "over all .. together"
abbrev pub Promised : Type 0
Promised = (l : Held) (metrics : List Float) (known limit : ℕ) (likely : List Float) (width rate layout fallback : ℕ) (prior : List Float)
    → (word symbols bits tones : List ℕ) (posteriors : List Float) (h pivots vectors words bytes floats : ℕ)
    → Promise l metrics known limit likely width rate layout fallback prior word symbols bits tones posteriors h pivots vectors words bytes floats
