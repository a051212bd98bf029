-- What peeling may be run on: parts of the right lengths with the edges of a graph, listed by check and by variable. Ours; it is the ghost field of `Edges`, and no public call's contract cites it.
-- Assumes nothing.
use Rattle.std.specs.Prelude.{ℕ, ◌+◌, ◌-◌, ◌<◌, ◌≤◌, ◌≡◌, ◌&&◌, List, leb, ltb, length}
use Rattle.lists.specs.Entry.{nth}
use Rattle.lists.specs.Keep.{keep_below}
use Rattle.lists.specs.Times.{times}
use Rattle.lists.specs.Values.{values}

-- the symbols of the edges from place `from` to place `to`
abbrev pub symbols_in : List ℕ → ℕ → ℕ → List ℕ
symbols_in var from to = values (to - from) (λ j. nth var (from + j))

-- how many of the edges in variable v's list stand in check c
unfoldable pub edges_on : List ℕ → List ℕ → List ℕ → ℕ → ℕ → ℕ
edges_on row start col v c =
    length (keep_below (λ j. leb (nth row c) (nth col (nth start v + j)) && ltb (nth col (nth start v + j)) (nth row (c + 1))) (nth start (v + 1) - nth start v))

-- m checks' edges, of variables below n
pub record Checked (n m : ℕ) (var row : List ℕ) : Type 0 where
  pub n_small : n ≤ 256
  pub m_small : m ≤ 256
  pub var_long : length var ≡ 512
  pub row_long : length row ≡ 257
  pub first : nth row 0 ≡ 0
  pub rise : (c : ℕ) → c < m → nth row c ≤ nth row (c + 1)
  pub end : nth row m ≤ 512
  pub vars : (e : ℕ) → e < nth row m → nth var e < n

-- and n variables' lists of places, each with the edges of its variable
pub record Peelable (n m : ℕ) (var row start col : List ℕ) : Type 0 where
  pub checks : Checked n m var row
  pub start_long : length start ≡ 257
  pub col_long : length col ≡ 512
  pub lists_rise : (v : ℕ) → v < n → nth start v ≤ nth start (v + 1)
  pub lists_end : (v : ℕ) → v < n → nth start (v + 1) ≤ 512
  pub places : (v i : ℕ) → v < n → nth start v ≤ i → i < nth start (v + 1) → nth col i < nth row m
  pub lists : (v c : ℕ) → v < n → c < m → edges_on row start col v c ≡ times v (symbols_in var (nth row c) (nth row (c + 1)))
  pub once : (v c : ℕ) → c < m → times v (symbols_in var (nth row c) (nth row (c + 1))) ≤ 1
