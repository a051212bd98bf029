-- The search for a later edge's check: breadth-first from a variable, layer by layer. nb.rs, the loop in `NbCode::new`; document 01, "ends in one of three ways".
-- The source drops the variable's own checks from the newest layer, and where none are left falls back on the layer before (`last`) and on all other checks.
-- None of the three ever acts: the candidates below are never none and hold no check of the variable's own (`candidates_fresh` in proofs/Candidates), and so the
-- source's candidates are these (`source_same` in proofs/Source).
-- Assumes nothing.
use Rattle.std.specs.Prelude.{ℕ, zero, suc, Bool, true, false, not, eqb, length, get_or, set, replicate}
use mathlib.Core.List.{List, [], ◌∷◌, ◌++◌, foldl}
use Rattle.lists.specs.Choice.{pick}
use Rattle.lists.specs.Keep.{keep_below}
use Rattle.growth.specs.Adjacency.{Adjacency, load}
use Rattle.growth.specs.PickMin.{pick_min}

-- ---- a layer

-- marks, and what was found new, in order of discovery
abbrev pub Found : Type 0
Found = List Bool × List ℕ

-- what is met is passed over where it is marked, and else marked and found
unfoldable pub meet : Found → ℕ → Found
meet s x = pick (get_or s.0 x false) s (set s.0 x true, s.1 ++ x ∷ [])

-- the entries of list u
unfoldable pub visited : (ℕ → List ℕ) → Found → ℕ → Found
visited lists s u = foldl meet s (lists u)

-- the entries of the front's lists
unfoldable pub layer : (ℕ → List ℕ) → List ℕ → List Bool → Found
layer lists front seen = foldl (visited lists) (seen, []) front

-- the numbers below m that are not marked, ascending
unfoldable pub unmarked : List Bool → ℕ → List ℕ
unmarked seen m = keep_below (λ c. not (get_or seen c false)) m

-- no marks
abbrev pub clear : List Bool
clear = replicate 256 false

-- ---- the search

-- the newest layer's variables, and which variables and checks are reached
pub record Reach : Type 0 where
  pub front : List ℕ
  pub seen_v : List Bool
  pub seen_c : List Bool

-- at variable v
abbrev pub begin : ℕ → Reach
begin v = record { front = v ∷ []; seen_v = set clear v true; seen_c = clear }

-- the next layer's checks, the checks then not reached, and the layer's variables
abbrev pub new_c : Adjacency → Reach → Found
new_c g s = layer g.var s.front s.seen_c

abbrev pub rest : ℕ → Adjacency → Reach → List ℕ
rest m g s = unmarked (new_c g s).0 m

abbrev pub new_v : Adjacency → Reach → Found
new_v g s = layer g.chk (new_c g s).1 s.seen_v

abbrev pub onward : Adjacency → Reach → Reach
onward g s = record { front = (new_v g s).1; seen_v = (new_v g s).0; seen_c = (new_c g s).0 }

abbrev pub none : List ℕ → Bool
none l = eqb (length l) 0

-- a layer found no new check; every check is reached; a layer found no new variable: else on, as long as the fuel lasts
unfoldable pub searched : ℕ → ℕ → Adjacency → ℕ → Reach → ℕ
searched zero m g draw s = 0
searched (suc fuel) m g draw s =
    pick (none (new_c g s).1) (pick_min (load g) (rest m g s) draw)
    (pick (none (rest m g s)) (pick_min (load g) (new_c g s).1 draw)
    (pick (none (new_v g s).1) (pick_min (load g) (rest m g s) draw)
    (searched fuel m g draw (onward g s))))
