-- The call checks_ok: whether a word satisfies all checks. Document 01, part 3; nb.rs, `checks_ok`.
-- Assumes nothing.
use Rattle.std.specs.Prelude.{ℕ, Bool, List, [], ◌∷◌, ◌++◌, length}
use Rattle.calls.specs.declared.Refusal.{Refusal}
use Rattle.calls.specs.declared.Refusal.TheVariants.{Value}
use Rattle.calls.specs.Refusal.{misfit}
use Rattle.lent.specs.Held.{Held}
use Rattle.lent.specs.LentCode.{lent_refusals}
use Rattle.words.specs.BadWord.{bad_word}

-- `h` and `pivots` are the parts' lengths
abbrev pub checks_ok_refusals : Held → List ℕ → ℕ → ℕ → List (Bool × Refusal)
checks_ok_refusals l word h pivots = lent_refusals l h pivots (misfit ((length word, l.code.n) ∷ [])) ++ (bad_word word, Value) ∷ []
