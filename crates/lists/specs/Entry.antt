-- Entry k of a list of numbers, counted from 0, and 0 past the end. Ours.
-- Assumes nothing.
use Rattle.std.specs.Prelude.{ℕ, List, get_or}

abbrev pub nth : List ℕ → ℕ → ℕ
nth l k = get_or l k 0
