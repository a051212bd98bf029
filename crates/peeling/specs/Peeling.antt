-- Peeling: which symbols to give so that every other follows from the checks, one check at a time. Document 01, part 3; nb.rs, `peel_picks`.
-- Assumes nothing.
use Rattle.std.specs.Prelude.{ℕ, Bool, true, false, not, ◌&&◌, List, [], ◌∷◌, ◌++◌, map, eqb, ltb, ℤ, pos, length, get_or}
use Rattle.lists.specs.Changed.{changed}
use Rattle.lists.specs.Choice.{pick}
use Rattle.lists.specs.Entry.{nth}
use Rattle.lists.specs.Iter.{iter}
use Rattle.lists.specs.Keep.{keep, keep_below}
use Rattle.lists.specs.Lowest.{lowest}
use Rattle.lists.specs.Times.{times}
use Rattle.elimination.specs.Graph.{Edge, Graph, check_count, check}
use Rattle.peeling.specs.Best.{best}

-- which symbols are known
abbrev pub Known : Type 0
Known = ℕ → Bool

-- the symbols of check c, and those of them that are unknown
unfoldable pub symbols_of : Graph → ℕ → List ℕ
symbols_of g c = map (λ (e : Edge). e.0) (check g c)

unfoldable pub unknowns : Graph → Known → ℕ → List ℕ
unknowns g known c = keep (λ v. not (known v)) (symbols_of g c)

-- the lowest check with exactly one unknown symbol; m where there is none
unfoldable pub one_unknown : Graph → Known → ℕ
one_unknown g known = lowest (λ c. eqb (length (unknowns g known c)) 1) (check_count g) 0

-- its unknown symbol
unfoldable pub following : Graph → Known → ℕ
following g known = nth (unknowns g known (one_unknown g known)) 0

-- how many checks symbol v frees: those it stands in that have exactly two unknown symbols
unfoldable pub freed : Graph → Known → ℕ → ℕ
freed g known v = length (keep_below (λ c. eqb (length (unknowns g known c)) 2 && ltb 0 (times v (symbols_of g c))) (check_count g))

-- the symbol to pick, by the preferences of all symbols; `last` as in Best
unfoldable pub pick_of : Bool → Graph → List ℤ → Known → ℕ
pick_of last g prefer known = best last g.n known (λ v. (freed g known v, get_or prefer v (pos 0)))

-- what is known so far, and the picks, in order
pub record Peeled : Type 0 where
  pub known : Known
  pub picks : List ℕ

-- a symbol follows from its check
unfoldable pub followed : Graph → Peeled → Peeled
followed g s = record { known = changed s.known (following g s.known) true; picks = s.picks }

-- a symbol is picked
unfoldable pub picked : Bool → Graph → List ℤ → Peeled → Peeled
picked last g prefer s =
    let v = pick_of last g prefer s.known in
    record { known = changed s.known v true; picks = s.picks ++ v ∷ [] }

-- while some check has exactly one unknown symbol, that symbol follows; when none has, the unknown symbol that frees the most checks is picked
unfoldable pub peel_turn : Bool → Graph → List ℤ → Peeled → Peeled
peel_turn last g prefer s = pick (ltb (one_unknown g s.known) (check_count g)) (followed g s) (picked last g prefer s)

-- with nothing known at first, after k turns; each makes one symbol known
unfoldable pub peeled : Bool → Graph → List ℤ → ℕ → Peeled
peeled last g prefer k = iter k (λ _ s. peel_turn last g prefer s) (record { known = λ _. false; picks = [] })

-- the picks, when every symbol is known
unfoldable pub picks_of : Bool → Graph → List ℤ → List ℕ
picks_of last g prefer = (peeled last g prefer g.n).picks
