-- What a call is given beside a code. Ours.
-- Assumes nothing.
use Rattle.std.specs.Prelude.{ℕ, ℤ, pos, negsuc, ◌+◌, ◌*◌, ◌-◌, ◌^◌, ◌%◌, List, nat_eq, if◌then◌else◌, bit_xor, slice_index, slice_set}
use Rattle.replay.specs.declared.given.Preferences.{Preferences}
use Rattle.replay.specs.declared.given.Preferences.TheVariants.{Degree, Alike, Modulo, Extremes}

-- the word with the symbol at a place xored, where the change is not 0
abbrev pub changed : List ℕ → ℕ → ℕ → List ℕ
changed word place change = if nat_eq change 0 then word else slice_set word place (bit_xor (slice_index word place) change)

-- RULE and SHIFT, by which a line says the preferences
abbrev pub rule_of : Preferences → ℕ
rule_of Degree = 0
rule_of Alike = 1
rule_of (Modulo shift) = 2
rule_of (Extremes shift) = 3

abbrev pub shift_of : Preferences → ℕ
shift_of Degree = 0
shift_of Alike = 0
shift_of (Modulo shift) = shift
shift_of (Extremes shift) = shift

-- the preference for variable v, which has this degree
abbrev pub preference : Preferences → ℕ → ℕ → ℤ
preference Degree v degree = pos degree
preference Alike v degree = pos 0
preference (Modulo shift) v degree = pos ((7 * v + shift) % 3)
preference (Extremes shift) v degree = if nat_eq ((v + shift) % 2) 0 then negsuc (2 ^ 63 - 1) else pos (2 ^ 63 - 1)
