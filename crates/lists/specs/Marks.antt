-- n marks, of the numbers f 0, .., f (k - 1). Ours; contracts of private functions cite it.
-- Assumes nothing.
use Rattle.std.specs.Prelude.{◌≡◌, Bool, false, List, ℕ, ◌<◌, length, get_or}
use Rattle.lists.specs.Among.{among}

pub record Marks (n : ℕ) (f : ℕ → ℕ) (k : ℕ) (marks : List Bool) : Type 0 where
  pub long : length marks ≡ n
  pub marked : (x : ℕ) → x < n → get_or marks x false ≡ among k f x
