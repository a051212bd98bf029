-- What is promised of words, of every code that is not refused: any n symbols below 32 satisfy all checks exactly when they are the encoding of their own information symbols;
-- sums and field multiples of such words are such words; and a graph has the same words in every column order.
-- Assumes nothing.
use Rattle.std.specs.Prelude.{ℕ, ◌≡◌, ◌<◌, ◌↔◌, true, List, length}
use Rattle.lists.specs.Values.{values}
use Rattle.elimination.specs.Graph.{Graph}
use Rattle.graph.specs.declared.Code.{Code}
use Rattle.graph.specs.Parts.{Parts}
use Rattle.lent.specs.LentCode.{NotRefused}
use Rattle.lent.specs.Misencoded.{graph_in}
use Rattle.words.specs.Encoding.{information_of, symbol, encoding, info_symbols}
use Rattle.words.specs.Linear.{sum_of, multiple_of}
use Rattle.words.specs.Word.{Symbols, Word, all_satisfied}

module _ (c : Code) (p : Parts) where
  abbrev g : Graph
  g = graph_in c p

  abbrev order : List ℕ
  order = p.order

  -- they are the encoding of their own information symbols
  abbrev pub OwnEncoding : List ℕ → Type 0
  OwnEncoding x = x ≡ encoding g order (info_symbols g order x)

  pub record Words : Type 0 where
    -- n symbols below 32 are a word exactly when they are the encoding of their own information symbols
    pub encodings : (x : List ℕ) → Symbols c.n x → Word g x ↔ OwnEncoding x
    -- and exactly when the test of all checks says so
    pub checked : (x : List ℕ) → Symbols c.n x → Word g x ↔ (all_satisfied g x ≡ true)
    pub sums : (x y : List ℕ) → Word g x → Word g y → Word g (sum_of x y)
    pub multiples : (f : ℕ) (x : List ℕ) → Word g x → Word g (multiple_of f x)
    -- every encoding is a word, with the given symbols as its information symbols
    pub encoded : (syms : List ℕ) → Word g (encoding g order syms)
    pub own : (syms : List ℕ) → info_symbols g order (encoding g order syms) ≡ values (length (information_of g order)) (symbol syms)
    -- so different information symbols give different words
    pub one_word : (u v : List ℕ) → encoding g order u ≡ encoding g order v → (t : ℕ) → t < length (information_of g order) → symbol u t ≡ symbol v t
    -- the encoder is linear, for symbols of any two lengths
    pub linear_sums : (u v : List ℕ) → encoding g order (sum_of u v) ≡ sum_of (encoding g order u) (encoding g order v)
    pub linear_multiples : (f : ℕ) (u : List ℕ) → encoding g order (multiple_of f u) ≡ multiple_of f (encoding g order u)

-- of two codes with one graph, the words in the one column order are those in the other
abbrev pub SameWords : Code → Parts → Code → Parts → Type 0
SameWords c p d q = graph_in c p ≡ graph_in d q → (x : List ℕ) → Symbols c.n x → OwnEncoding c p x ↔ OwnEncoding d q x

-- of every code, and of every two
abbrev pub Promised : Type 0
Promised = ((c : Code) (p : Parts) → NotRefused c p → Words c p) × ((c d : Code) (p q : Parts) → NotRefused c p → NotRefused d q → SameWords c p d q)
