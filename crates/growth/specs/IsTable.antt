-- What two slices must hold to be a table of lists in 256 rows: lengths, and no row longer than its place. Ours.
-- Assumes nothing.
use Rattle.std.specs.Prelude.{ℕ, ◌≤◌, ◌≡◌, List, length}
use Rattle.lists.specs.Entry.{nth}

pub record IsTable (cells counts : List ℕ) : Type 0 where
  pub long : length counts ≡ 256
  pub wide : length cells ≡ 65536
  pub short : (r : ℕ) → nth counts r ≤ 256
