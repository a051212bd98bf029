-- The call encode: the word of given information symbols, into a part of n. Document 01, part 3; nb.rs, `encode`.
-- Assumes nothing.
use Rattle.std.specs.Prelude.{ℕ, Bool, List, [], ◌∷◌, ◌++◌, ltb, length}
use Rattle.calls.specs.declared.Refusal.{Refusal}
use Rattle.calls.specs.declared.Refusal.TheVariants.{Value}
use Rattle.calls.specs.Refusal.{misfit}
use Rattle.lent.specs.Held.{Held}
use Rattle.lent.specs.LentCode.{graph_of, lent_refusals}
use Rattle.words.specs.Encoding.{encoding}
use Rattle.words.specs.K.{k_of}

-- `word`, `h` and `pivots` are the parts' lengths. 8: "more information symbols than the code has"
abbrev pub encode_refusals : Held → List ℕ → ℕ → ℕ → ℕ → List (Bool × Refusal)
encode_refusals l syms word h pivots = lent_refusals l h pivots (misfit ((word, l.code.n) ∷ [])) ++ (ltb (k_of l) (length syms), Value) ∷ []

-- what then stands in the word
abbrev pub encoded : Held → List ℕ → List ℕ
encoded l syms = encoding (graph_of l) l.parts.order syms
