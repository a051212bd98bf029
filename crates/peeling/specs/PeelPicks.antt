-- The call peel_picks: the picks of a lent code by n preferences, into a part of n. Document 01, part 3; nb.rs, `peel_picks`.
-- Assumes nothing.
use Rattle.std.specs.Prelude.{ℕ, Bool, List, [], ◌∷◌, ℤ, length}
use Rattle.calls.specs.declared.Refusal.{Refusal}
use Rattle.calls.specs.Refusal.{misfit}
use Rattle.calls.specs.Parts.{padded}
use Rattle.lent.specs.Held.{Held}
use Rattle.lent.specs.LentCode.{graph_of, lent_refusals}
use Rattle.peeling.specs.Best.{last_of_equal}
use Rattle.peeling.specs.Peeling.{picks_of}

-- `picks`, `h` and `pivots` are the parts' lengths
abbrev pub peel_picks_refusals : Held → List ℤ → ℕ → ℕ → ℕ → List (Bool × Refusal)
peel_picks_refusals l prefer picks h pivots = lent_refusals l h pivots (misfit ((length prefer, l.code.n) ∷ (picks, l.code.n) ∷ []))

-- the picks, and the part that holds them
abbrev pub picked : Held → List ℤ → List ℕ
picked l prefer = picks_of last_of_equal (graph_of l) prefer

abbrev pub picks_part : Held → List ℤ → List ℕ
picks_part l prefer = padded l.code.n 0 (picked l prefer)
