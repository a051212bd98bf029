-- Which of the unknown symbols is picked: the one that frees the most checks; a tie goes to the higher preference, a further tie to the highest position.
-- Document 01's corner on `peel_picks`; nb.rs, `max_by_key`.
-- Assumes nothing.
use Rattle.std.specs.Prelude.{ℕ, Bool, true, false, not, ◌&&◌, ◌||◌, eqb, ltb, ℤ}
use Rattle.std.specs.Int.Signed.{lt_z, le_z}
use Rattle.lists.specs.Choice.{pick}
use Rattle.lists.specs.Iter.{iter}
use Rattle.lists.specs.Lowest.{lowest}
use Rattle.peeling.specs.declared.best.Tie.{Tie}
use Rattle.peeling.specs.declared.best.Tie.TheVariants.{First, Last}

-- "a further tie goes to the highest position (`max_by_key` keeps the last)"
abbrev pub last_of_equal : Bool
last_of_equal = true

-- whether the code is told to take the last
abbrev pub is_last : Tie → Bool
is_last First = false
is_last Last = true

-- whether preference y is taken over x, which stands before it: the higher; of equal ones the last where `last`, else the first
unfoldable pub overtakes : Bool → ℤ → ℤ → Bool
overtakes last x y = pick last (le_z x y) (lt_z x y)

-- how many checks a symbol frees, and its preference
abbrev pub Key : Type 0
Key = ℕ × ℤ

-- whether key y is taken over x, which stands before it
unfoldable pub replaces : Bool → Key → Key → Bool
replaces last x y = ltb x.0 y.0 || (eqb x.0 y.0 && overtakes last x.1 y.1)

-- of the unknown symbols below n, beginning with the lowest
unfoldable pub best : Bool → ℕ → (ℕ → Bool) → (ℕ → Key) → ℕ
best last n known key = iter n (λ v b. pick (not (known v) && replaces last (key b) (key v)) v b) (lowest (λ v. not (known v)) n 0)
