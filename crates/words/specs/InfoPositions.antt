-- The call info_positions: a code's information positions, into a part of n. nb.rs, `info_positions`.
-- Assumes nothing.
use Rattle.std.specs.Prelude.{ℕ, Bool, List, [], ◌∷◌}
use Rattle.calls.specs.declared.Refusal.{Refusal}
use Rattle.calls.specs.Refusal.{misfit}
use Rattle.calls.specs.Parts.{padded}
use Rattle.lent.specs.Held.{Held}
use Rattle.lent.specs.LentCode.{graph_of, lent_refusals}
use Rattle.words.specs.Encoding.{information_of}

-- `positions`, `h` and `pivots` are the parts' lengths
abbrev pub info_positions_refusals : Held → ℕ → ℕ → ℕ → List (Bool × Refusal)
info_positions_refusals l positions h pivots = lent_refusals l h pivots (misfit ((positions, l.code.n) ∷ []))

-- the part that holds them
abbrev pub positions_part : Held → List ℕ
positions_part l = padded l.code.n 0 (information_of (graph_of l) l.parts.order)
