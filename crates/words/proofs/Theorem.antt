-- The theorem about words, of every code that is not refused; and that a graph has the same words in every column order. What it says stands in specs/Promise.antt.
-- Assumes nothing.
use Prim.Native.Nat.{ℕ}
use mathlib.Core.Path.{◌≡◌, sym, ap, subst, ◌∙◌}
use mathlib.Core.List.{List}
use Rattle.lists.specs.Entry.{nth}
use Rattle.graph.specs.declared.Code.{Code}
use Rattle.elimination.specs.Graph.{Graph}
use Rattle.elimination.specs.Held.{held}
use Rattle.lent.specs.LentCode.{NotRefused}
use Rattle.lent.specs.Misencoded.{graph_in}
use Rattle.graph.specs.Parts.{Parts}
use Rattle.lent.specs.Sound.{IsSound}
use Rattle.lent.proofs.SoundCode.{sound}
use Rattle.lent.proofs.Encoded.{formed_small, formed_inside}
use Rattle.elimination.proofs.Entries.{Small, Inside}
use Rattle.words.specs.Encoding.{information_of}
use Rattle.words.specs.Promise.{OwnEncoding, Words, SameWords, Promised}
use Rattle.words.specs.Word.{Symbols, Word}
use Rattle.words.proofs.CheckSums.{all_satisfied-true}
use Rattle.words.proofs.Encodings.{encoding_info, info_own, encoding_word, words_encodings}
use Rattle.words.proofs.Linear.{word_sum, word_multiple, encoding_sum, encoding_multiple}

-- ---- of a code that the refusals leave

module _ {c : Code} {p : Parts} (w : IsSound c p) where
  abbrev g : Graph
  g = graph_in c p

  abbrev order : List ℕ
  order = p.order

  small : Small g
  small = formed_small c p w.formed

  inside : Inside g
  inside = formed_inside c p w.formed

  sound_words : Words c p
  unfolding held
  sound_words = record {
    encodings = words_encodings g order small w.formed.order inside;
    checked = λ x y. (λ v. (all_satisfied-true g x).1 v.satisfied, λ e. record { symbols = y; satisfied = (all_satisfied-true g x).0 e });
    sums = word_sum g;
    multiples = word_multiple g;
    encoded = encoding_word g order small w.formed.order inside;
    own = info_own g order;
    one_word = λ u v e t h.
        sym (encoding_info g order u t h) ∙ ap (λ (x : List ℕ). nth x (nth (information_of g order) t)) e ∙ encoding_info g order v t h;
    linear_sums = encoding_sum g order small w.formed.order inside;
    linear_multiples = encoding_multiple g order small w.formed.order inside;
  }

pub words : (c : Code) (p : Parts) → NotRefused c p → Words c p
words c p r = sound_words (sound c p r)

-- ---- of two codes with one graph

same_n : (c d : Code) (p q : Parts) → graph_in c p ≡ graph_in d q → c.n ≡ d.n
unfolding held
same_n c d p q e = ap (λ (g : Graph). g.n) e

-- a word in the one column order is a word in the other
other_order : {c d : Code} {p q : Parts} → Words c p → Words d q → graph_in c p ≡ graph_in d q → (x : List ℕ) → Symbols c.n x
    → OwnEncoding c p x → OwnEncoding d q x
unfolding held
other_order w v e x y z = let word = subst (λ (g : Graph). Word g x) e ((w.encodings x y).1 z) in (v.encodings x word.symbols).0 word

pub same_words : (c d : Code) (p q : Parts) → NotRefused c p → NotRefused d q → SameWords c p d q
same_words c d p q r s e x y =
    (other_order (words c p r) (words d q s) e x y, other_order (words d q s) (words c p r) (sym e) x (subst (λ (n : ℕ). Symbols n x) (same_n c d p q e) y))

pub promise : Promised
promise = (words, same_words)
