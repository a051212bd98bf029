-- How cases are counted: none at first, and then one more for each. Ours.
-- Assumes nothing.
use Rattle.std.specs.Prelude.{ℕ, Bool, ◌+◌, ◌-◌, ◌^◌, min, if◌then◌else◌}
use Rattle.replay.specs.declared.tally.Count.{Count}

-- A count stops at the greatest number of 64 bits, which no list comes to.
abbrev pub more : ℕ → ℕ
more n = min (n + 1) (2 ^ 64 - 1)

abbrev pub none : Count
none = record { cases = 0; differ = 0 }

-- with one more case
abbrev pub counted : Bool → Count → Count
counted is_same c = record { cases = more c.cases; differ = if is_same then c.differ else more c.differ }
