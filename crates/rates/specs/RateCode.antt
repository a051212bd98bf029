-- The code of a rate for either information set: what `new` builds from its degrees, or that code in the column order that peeling gives, the degrees being the preferences.
-- nb.rs, `code_at`.
-- Assumes nothing.
use Rattle.std.specs.Prelude.{ℕ, zero, suc, Bool, List, map, ℤ, pos}
use Rattle.elimination.specs.Graph.{Graph}
use Rattle.graph.specs.Built.{built}
use Rattle.graph.specs.Descending.{descending}
use Rattle.graph.specs.New.{numbers}
use Rattle.graph.specs.Parts.{parts}
use Rattle.lent.specs.Held.{Held}
use Rattle.peeling.specs.Best.{last_of_equal}
use Rattle.peeling.specs.WithPeeledInfo.{order_of, code_in, parts_in}
use Rattle.rates.specs.declared.Rate.{Rate}
use Rattle.rates.specs.declared.InfoSet.{InfoSet}
use Rattle.rates.specs.declared.InfoSet.TheVariants.{Echelon, Peeled}
use Rattle.rates.specs.Rate.{checks, rate_degrees}

-- an information set by its number
abbrev pub set_of : ℕ → InfoSet
set_of zero = Echelon
set_of (suc k) = Peeled

unfoldable pub rate_graph : Rate → Graph
rate_graph r = built r.n (checks r) (rate_degrees r) r.seed

unfoldable pub echelon_code : Rate → Held
echelon_code r = record { code = numbers (rate_graph r) (descending r.n); parts = parts (rate_graph r) (descending r.n) }

-- the preferences
unfoldable pub preferences : Rate → List ℤ
preferences r = map (λ (d : ℕ). pos d) (rate_degrees r)

-- a code in the order that peeling gives; of equal picks the last is taken where `last`, else the first
unfoldable pub in_peeled_order : Bool → Held → List ℤ → Held
in_peeled_order last l prefer =
    let order = order_of last l.code l.parts prefer in
    record { code = code_in l.code l.parts order; parts = parts_in l.code l.parts order }

unfoldable pub rate_code : Rate → InfoSet → Held
rate_code r Echelon = echelon_code r
rate_code r Peeled = in_peeled_order last_of_equal (echelon_code r) (preferences r)
