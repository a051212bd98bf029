-- The call info_of: a word's information symbols, into a part of n. Document 01, part 3; nb.rs, `info_of`.
-- Assumes nothing.
use Rattle.std.specs.Prelude.{ℕ, Bool, List, [], ◌∷◌, ◌++◌, length}
use Rattle.calls.specs.declared.Refusal.{Refusal}
use Rattle.calls.specs.declared.Refusal.TheVariants.{Value}
use Rattle.calls.specs.Refusal.{misfit}
use Rattle.calls.specs.Parts.{padded}
use Rattle.lent.specs.Held.{Held}
use Rattle.lent.specs.LentCode.{graph_of, lent_refusals}
use Rattle.words.specs.Encoding.{info_symbols}
use Rattle.words.specs.BadWord.{bad_word}

-- `syms`, `h` and `pivots` are the parts' lengths
abbrev pub info_of_refusals : Held → List ℕ → ℕ → ℕ → ℕ → List (Bool × Refusal)
info_of_refusals l word syms h pivots =
    lent_refusals l h pivots (misfit ((length word, l.code.n) ∷ (syms, l.code.n) ∷ [])) ++ (bad_word word, Value) ∷ []

-- the symbols, and the part that holds them
abbrev pub own_symbols : Held → List ℕ → List ℕ
own_symbols l word = info_symbols (graph_of l) l.parts.order word

abbrev pub own_part : Held → List ℕ → List ℕ
own_part l word = padded l.code.n 0 (own_symbols l word)
