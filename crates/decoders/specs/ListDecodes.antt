-- What is promised of list decoding (docs/PROMISE.md): "every word accepted .. is one". And what the word is among: the best of the candidates, which are the words whose
-- information symbols are the likeliest, but at the least sure slots perhaps the second likeliest.
-- Assumes nothing.
use Rattle.std.specs.Prelude.{ℕ, ◌^◌, ◌<◌, ◌≤◌, ◌≡◌, false, List, None, Ok, Float, length}
use Rattle.std.specs.Float.Ieee.{lt}
use Rattle.lists.specs.Entry.{nth}
use Rattle.lists.specs.Ordered.{Ordered}
use Rattle.lists.specs.Values.{values}
use Rattle.calls.specs.Refusal.{first_of}
use Rattle.elimination.specs.Graph.{Graph}
use Rattle.graph.specs.declared.Code.{Code}
use Rattle.graph.specs.Parts.{Parts}
use Rattle.lent.specs.Misencoded.{graph_in}
use Rattle.words.specs.Encoding.{information_of, encoding, info_symbols}
use Rattle.words.specs.Word.{Word}
use Rattle.vectors.specs.Decision.{decision}
use Rattle.vectors.specs.Vector.{vector}
use Rattle.candidates.specs.Alternatives.{margin_at, before, least_sure}
use Rattle.candidates.specs.Candidate.{candidate}
use Rattle.candidates.specs.Choices.{OneOfTwo, Chosen}
use Rattle.candidates.specs.ListWord.{base_word, alternatives, generator}
use Rattle.candidates.specs.Tried.{tried}
use Rattle.decoders.specs.ListDecode.{list_refusals, ListDecoded, list_decode}

module _ (c : Code) (p : Parts) (metrics posteriors : List Float) (width : ℕ) (word : List ℕ) (matrix pivots : ℕ) where
  -- what the call gives, matrix and pivots being the lengths of the work parts
  abbrev d : ListDecoded
  d = list_decode c p metrics posteriors width word matrix pivots

  abbrev g : Graph
  g = graph_in c p

  abbrev order : List ℕ
  order = p.order

  abbrev positions : List ℕ
  positions = information_of g order

  -- how many alternatives there are, candidate i, and its running score
  abbrev all : ℕ
  all = alternatives g order posteriors width

  abbrev tries : ℕ → List ℕ
  tries = candidate g order posteriors width metrics

  abbrev scored : ℕ → Float
  scored i = (tried metrics (generator g order posteriors width) (base_word g order posteriors) i).score

  -- no refusal turns the call down
  abbrev pub Passes : Type 0
  Passes = first_of (list_refusals c p metrics posteriors width (length word) matrix pivots) ≡ None

  pub record ListDecodes : Type 0 where
    -- it accepts, without a round
    pub accepts : d.answer.answer ≡ Ok tt
    pub no_rounds : d.answer.rounds ≡ 0
    -- the word is a word of the code
    pub is_word : Word g d.word
    -- it is one of the candidates, of which there are at most 2 ^ width, and no candidate's running score is greater
    pub few : 2 ^ all ≤ 2 ^ width
    pub place : ℕ
    pub inside : place < 2 ^ all
    pub candidate_is : d.word ≡ tries place
    pub most : (i : ℕ) → i < 2 ^ all → lt (scored place) (scored i) ≡ false
    -- each candidate is the encoding of its information symbols, and these are the likeliest, or at the slot of an alternative the second likeliest
    pub encodings : (i : ℕ) → tries i ≡ encoding g order (info_symbols g order (tries i))
    pub symbols : (t : ℕ) → t < length positions → OneOfTwo g order posteriors width t (nth (info_symbols g order d.word) t)
    -- the slots of the alternatives are the least sure: ascending by margin, equal ones in slot order, and all other slots come after them
    pub ordered : Ordered (length positions) (before (margin_at posteriors (nth positions))) all (least_sure (length positions) (margin_at posteriors (nth positions)) all)
    -- and every choice of the likeliest or the second at each of them is a candidate
    pub choices : (k : ℕ) → k < 2 ^ all → (i : ℕ) × (i < 2 ^ all) × Chosen g order posteriors width k (tries i)
    -- with width 0 it is the encoding of the likeliest symbols
    pub none : width ≡ 0 → d.word ≡ encoding g order (values (length positions) (λ t. decision (vector posteriors (nth positions t))))
