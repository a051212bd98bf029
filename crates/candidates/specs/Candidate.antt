-- The candidates of list decoding, each by its number: candidate i is the word at hand after i steps. Ours; the word that list decoding finds is one of them.
-- Assumes nothing.
use Rattle.std.specs.Prelude.{ℕ, List, Float}
use Rattle.elimination.specs.Graph.{Graph}
use Rattle.candidates.specs.ListWord.{base_word, generator}
use Rattle.candidates.specs.Tried.{tried}

module _ (g : Graph) (order : List ℕ) (posteriors : List Float) (width : ℕ) (metrics : List Float) where
  -- the candidate after i steps
  abbrev pub candidate : ℕ → List ℕ
  candidate i = (tried metrics (generator g order posteriors width) (base_word g order posteriors) i).word
