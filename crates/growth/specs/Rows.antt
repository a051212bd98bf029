-- How a growing graph stands in tables: a list for each of 256 rows, row r with counts[r] entries from cells[r * 256] on. Ours.
-- Only contracts of functions inside this crate and of the layer above it cite it, and no public call's.
-- Assumes nothing.
use Rattle.std.specs.Prelude.{ℕ, ◌+◌, ◌*◌, ◌≡◌, Bool, List, length, take, drop}
use Rattle.lists.specs.Entry.{nth}
use Rattle.field.specs.declared.splitmix64.SplitMix64.{SplitMix64}
use Rattle.growth.specs.Adjacency.{Adjacency}
use Rattle.growth.specs.Search.{Found, unmarked}
use Rattle.growth.specs.Growth.{Growth}
use Rattle.growth.specs.declared.table.Table.{Table}

unfoldable pub rows : List ℕ → List ℕ → ℕ → List ℕ
rows cells counts r = take (nth counts r) (drop (r * 256) cells)

-- those of a table
abbrev pub rows_of : Table → ℕ → List ℕ
rows_of t = rows t.cells.now t.counts.now

-- a table on the same two slices
pub record SameSlices (s t : Table) : Type 0 where
  pub cells : t.cells.ghost_name ≡ s.cells.ghost_name
  pub counts : t.counts.ghost_name ≡ s.counts.ghost_name

-- the graph of each check's variables and each variable's checks, and beside it the generator's state
abbrev pub adjacency_of : Table → Table → Adjacency
adjacency_of checks vars = record { chk = rows_of checks; var = rows_of vars }

abbrev pub growth_of : Table → Table → SplitMix64 → Growth
growth_of checks vars generator = (adjacency_of checks vars, generator.state)

-- how many of 256 marks are free
unfoldable pub free : List Bool → ℕ
free seen = length (unmarked seen 256)

-- the marks and what is found after are what f makes of those before, and each entry took a mark
pub record Went (f : Found → Found) (before after : Found) : Type 0 where
  pub same : ◌≡◌ {A = Found} after (f before)
  pub balance : free after.0 + length after.1 ≡ free before.0 + length before.1
