-- A rate: n symbols, of which the first `heavy` have the degree named and the others 2, and the seed of its graph. nb.rs, `degrees_for`.
-- Assumes nothing.
use Rattle.std.specs.Prelude.{ℕ, ◌-◌, ◌≤◌, List, ltb}
use Rattle.lists.specs.Choice.{pick}
use Rattle.lists.specs.Values.{values}
use Rattle.field.specs.DegreeRows.{degree_row}
use Rattle.graph.specs.Buildable.{Buildable}
use Rattle.rates.specs.declared.Rate.{Rate}

-- a frame's 256 bits, with four of padding, are 52 information symbols
abbrev pub symbols : ℕ
symbols = 52

-- how many checks a rate has
abbrev pub checks : Rate → ℕ
checks r = r.n - symbols

-- the degree of position v: the heavy columns come first, the rest have 2
abbrev pub degree_at : Rate → ℕ → ℕ
degree_at r v = pick (ltb v r.heavy) r.degree 2

unfoldable pub rate_degrees : Rate → List ℕ
rate_degrees r = values r.n (degree_at r)

abbrev pub seed : ℕ
seed = 0x4E42_4C44_5043

-- rates 1/4, 1/3, 1/2 and 2/3 by their numbers, 0 to 3
unfoldable pub rate_of : ℕ → Rate
rate_of rate =
    let row = degree_row rate in
    record { n = row.n; heavy = row.heavy; degree = row.degree; seed = seed }

-- a rate that has a code: more symbols than a frame's 52 by two or more, and sizes and degrees that refusals 2, 4 and 5 pass
pub record IsRate (r : Rate) : Type 0 where
  pub long : 54 ≤ r.n
  pub buildable : Buildable r.n (checks r) (rate_degrees r)
