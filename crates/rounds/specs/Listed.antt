-- What a variable's products are given: its list of places, from `lo` to `hi` in `col`, and its channel vector. Ours; no public call's contract cites it.
-- Assumes nothing.
use Rattle.std.specs.Prelude.{ℕ, ◌+◌, ◌<◌, ◌≤◌, ◌≡◌, List, Float, length}
use Rattle.lists.specs.Entry.{nth}
use Rattle.rounds.specs.Work.{vectors_length}

pub record Listed (col : List ℕ) (lo hi v : ℕ) (w : List Float) : Type 0 where
  pub long : length w ≡ vectors_length
  pub v_small : v < 256
  pub rise : lo ≤ hi
  pub end : hi ≤ length col
  pub places : (j : ℕ) → lo + j < hi → nth col (lo + j) < 512
