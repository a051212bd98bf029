-- The call list_decode: the best of the words around given posteriors. Document 01, part 4; nb.rs, `list_decode`.
-- Assumes nothing.
use Rattle.std.specs.Prelude.{ℕ, ◌*◌, Bool, not, ◌||◌, List, [], ◌∷◌, ◌++◌, Result, ltb, Float, length}
use Rattle.std.specs.Float.Ieee.Scale.{finite}
use Rattle.lists.specs.AnyBelow.{any_below}
use Rattle.calls.specs.declared.Refusal.{Refusal}
use Rattle.calls.specs.declared.Refusal.TheVariants.{Value}
use Rattle.calls.specs.Refusal.{first_of, answered, misfit}
use Rattle.calls.specs.Parts.{written}
use Rattle.graph.specs.declared.Code.{Code}
use Rattle.graph.specs.Parts.{Parts}
use Rattle.lent.specs.Misencoded.{graph_in}
use Rattle.lent.specs.LentCode.{code_refusals}
use Rattle.vectors.specs.Vector.{at}
use Rattle.candidates.specs.ListWord.{list_word}
use Rattle.decoders.specs.declared.Decoding.{Decoding}

-- the call's own parts: each length beside the one that it should have
abbrev pub list_lengths : Code → ℕ → ℕ → ℕ → List (ℕ × ℕ)
list_lengths c metrics posteriors word = (metrics, c.n * 32) ∷ (posteriors, c.n * 32) ∷ (word, c.n) ∷ []

unfoldable pub not_finite : List Float → Bool
not_finite posteriors = any_below (length posteriors) (λ i. not (finite (at posteriors i)))

-- 8: "a list width above 16, or a posterior not finite"
abbrev pub unlistable : List Float → ℕ → Bool
unlistable posteriors width = ltb 16 width || not_finite posteriors

-- h and pivots are the work parts' lengths
abbrev pub list_refusals : Code → Parts → List Float → List Float → ℕ → ℕ → ℕ → ℕ → List (Bool × Refusal)
list_refusals c p metrics posteriors width word h pivots =
    code_refusals c p h pivots (misfit (list_lengths c (length metrics) (length posteriors) word)) ++ (unlistable posteriors width, Value) ∷ []

abbrev pub list_answer : Code → Parts → List Float → List Float → ℕ → ℕ → ℕ → ℕ → Result (Unit {0}) Refusal
list_answer c p metrics posteriors width word h pivots = answered (first_of (list_refusals c p metrics posteriors width word h pivots)) tt

-- what it gives, together; "the list decoder called by itself reports 0"
pub record ListDecoded : Type 0 where
  pub answer : Decoding
  pub word : List ℕ

unfoldable pub list_decode : Code → Parts → List Float → List Float → ℕ → List ℕ → ℕ → ℕ → ListDecoded
list_decode c p metrics posteriors width word h pivots =
    let a = list_answer c p metrics posteriors width (length word) h pivots in
    record { answer = record { answer = a; rounds = 0 }; word = written a word (list_word (graph_in c p) p.order posteriors metrics width) }
