-- The word that list decoding finds in a graph with a column order. nb.rs, `unit_codeword` and `list_decode`.
-- Assumes nothing.
use Rattle.std.specs.Prelude.{ℕ, ◌-◌, ◌^◌, min, List, Float, length, set, replicate}
use Rattle.lists.specs.Entry.{nth}
use Rattle.lists.specs.Values.{values}
use Rattle.elimination.specs.Graph.{Graph}
use Rattle.words.specs.Encoding.{information_of, encoding}
use Rattle.words.specs.Linear.{multiple_of}
use Rattle.candidates.specs.Alternatives.{likeliest_at, difference_at, margin_at, least_sure}
use Rattle.candidates.specs.Tried.{tried}

-- the encoding of 1 at one slot and 0 at all others
unfoldable pub unit_codeword : Graph → List ℕ → ℕ → List ℕ
unit_codeword g order s = encoding g order (set (replicate (length (information_of g order)) 0) s 1)

module _ (g : Graph) (order : List ℕ) (posteriors : List Float) where
  abbrev positions : List ℕ
  positions = information_of g order

  -- the likeliest symbols, encoded
  unfoldable pub base_word : List ℕ
  base_word = encoding g order (values (length positions) (likeliest_at posteriors (nth positions)))

  -- how many alternatives there are: no more than slots
  abbrev pub alternatives : ℕ → ℕ
  alternatives width = min width (length (information_of g order))

  -- the slot of alternative j
  unfoldable pub slot_of : ℕ → ℕ → ℕ
  slot_of width j = nth (least_sure (length positions) (margin_at posteriors (nth positions)) (alternatives width)) j

  -- what alternative j adds to a word: the multiple of its slot's unit word that takes the likeliest value to the second
  unfoldable pub generator : ℕ → ℕ → List ℕ
  generator width j = let s = slot_of width j in multiple_of (difference_at posteriors (nth positions) s) (unit_codeword g order s)

  -- all 2 ^ w combinations of the w alternatives
  unfoldable pub list_word : List Float → ℕ → List ℕ
  list_word metrics width = (tried metrics (generator width) base_word (2 ^ alternatives width - 1)).best
