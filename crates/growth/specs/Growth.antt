-- Progressive edge growth (Hu, Eleftheriou and Arnold 2005): variables by degree and position, their edges one by one. nb.rs, `NbCode::new`.
-- Assumes nothing.
use Rattle.std.specs.Prelude.{ℕ, ◌+◌, eqb}
use Rattle.lists.specs.Iter.{iter}
use Rattle.lists.specs.Choice.{pick}
use Rattle.field.specs.SplitMix64.{draw, next}
use Rattle.growth.specs.Adjacency.{Adjacency, load, joined}
use Rattle.growth.specs.PickMin.{pick_min}
use Rattle.growth.specs.Search.{unmarked, clear, begin, searched}

-- the check of v's edge numbered k: any of the m for a first edge, else by search; the fuel is one turn for each variable and one more
unfoldable pub chosen : ℕ → Adjacency → ℕ → ℕ → ℕ → ℕ
chosen m g v k drawn = pick (eqb k 0) (pick_min (load g) (unmarked clear m) drawn) (searched 257 m g drawn (begin v))

-- a graph and the generator's state
abbrev pub Growth : Type 0
Growth = Adjacency × ℕ

-- an edge takes one draw
unfoldable pub edge_turn : ℕ → ℕ → ℕ → Growth → Growth
edge_turn m v k s = (joined s.0 (chosen m s.0 v k (draw s.1)) v, next s.1)

-- the d edges of v
unfoldable pub served : ℕ → ℕ → ℕ → Growth → Growth
served m v d s = iter d (edge_turn m v) s

-- the variables of degree d, by position
unfoldable pub degree_turn : ℕ → (ℕ → ℕ) → ℕ → ℕ → Growth → Growth
degree_turn m degs d v s = pick (eqb (degs v) d) (served m v d s) s

unfoldable pub of_degree : ℕ → ℕ → (ℕ → ℕ) → ℕ → Growth → Growth
of_degree m n degs d s = iter n (degree_turn m degs d) s

-- m checks, n variables: degrees up to m, ascending
unfoldable pub grown : ℕ → ℕ → (ℕ → ℕ) → Growth → Growth
grown m n degs s = iter (m + 1) (of_degree m n degs) s
