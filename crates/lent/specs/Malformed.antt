-- Number 6: whether what stands in the lent parts is no graph with a column order. Document 01, "Turning a call down", in its order and words.
-- Assumes nothing.
use Rattle.std.specs.Prelude.{ℕ, ◌+◌, ◌-◌, ◌*◌, Bool, not, ◌||◌, List, [], ◌∷◌, eqb, ltb}
use Rattle.lists.specs.AnyBelow.{any_below}
use Rattle.lists.specs.EachOnce.{outside, repeated, each_once}
use Rattle.lists.specs.Entry.{nth}
use Rattle.lists.specs.Front.{used_past}
use Rattle.calls.specs.Refusal.{one_holds}
use Rattle.graph.specs.declared.Code.{Code}
use Rattle.graph.specs.Parts.{Parts}

-- k lists' starts "don't go from 0 to the edge count without falling"
unfoldable pub bad_starts : ℕ → ℕ → List ℕ → Bool
bad_starts k count starts =
    not (eqb (nth starts 0) 0) || (any_below k (λ i. ltb (nth starts (i + 1)) (nth starts i)) || not (eqb (nth starts k) count))

-- "a variable .. stands twice in a check"
unfoldable pub twice : ℕ → List ℕ → List ℕ → Bool
twice m row var = any_below m (λ c. repeated (nth row (c + 1) - nth row c) (λ j. nth var (nth row c + j)))

-- "a coefficient is not 1 to 31"
unfoldable pub bad_coefs : ℕ → List ℕ → Bool
bad_coefs count coef = any_below count (λ e. eqb (nth coef e) 0 || ltb 31 (nth coef e))

-- a variable's list has an edge of another variable
unfoldable pub foreign : ℕ → List ℕ → List ℕ → List ℕ → Bool
foreign n var start col = any_below n (λ v. any_below (nth start (v + 1) - nth start v) (λ j. not (eqb (nth var (nth col (nth start v + j))) v)))

-- "an edge list by variable disagrees": it does not hold each edge of its variable once and nothing else. The lists' order within is free
unfoldable pub disagree : ℕ → ℕ → List ℕ → List ℕ → List ℕ → Bool
disagree n count var start col = one_holds (bad_starts n count start ∷ not (each_once count (nth col)) ∷ foreign n var start col ∷ [])

-- "an unused entry is not 0", by the code's own numbers: of every part
unfoldable pub unused_hold : Code → Parts → Bool
unused_hold c p =
    one_holds
    (used_past c.edges p.var
    ∷ used_past c.edges p.coef
    ∷ used_past (c.m + 1) p.row
    ∷ used_past (c.n + 1) p.start
    ∷ used_past c.edges p.col
    ∷ used_past c.n p.order
    ∷ used_past c.rank p.parity
    ∷ used_past (c.n - c.rank) p.info
    ∷ used_past (c.rank * (c.n - c.rank)) p.a
    ∷ [])

unfoldable pub malformed : Code → Parts → Bool
malformed c p =
    one_holds
    (ltb 512 c.edges
    ∷ bad_starts c.m c.edges p.row
    ∷ outside c.n c.edges (nth p.var)
    ∷ twice c.m p.row p.var
    ∷ bad_coefs c.edges p.coef
    ∷ disagree c.n c.edges p.var p.start p.col
    ∷ not (each_once c.n (nth p.order))
    ∷ unused_hold c p
    ∷ [])
