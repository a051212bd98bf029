-- The choice among candidates: those of least load in their given order, and of these the one numbered draw mod their count. nb.rs, `pick_min`.
-- Assumes nothing.
use Rattle.std.specs.Prelude.{ℕ, ◌%◌, min, eqb, length}
use mathlib.Core.List.{List, foldl}
use Rattle.lists.specs.Keep.{keep}
use Rattle.lists.specs.Entry.{nth}

-- the least load
abbrev pub lower : (ℕ → ℕ) → ℕ → ℕ → ℕ
lower load lo c = min lo (load c)

unfoldable pub least : (ℕ → ℕ) → List ℕ → ℕ
least load cand = foldl (lower load) (load (nth cand 0)) cand

-- the candidates of least load
unfoldable pub lightest : (ℕ → ℕ) → List ℕ → List ℕ
lightest load cand = keep (λ c. eqb (load c) (least load cand)) cand

unfoldable pub pick_min : (ℕ → ℕ) → List ℕ → ℕ → ℕ
pick_min load cand draw = nth (lightest load cand) (draw % length (lightest load cand))
