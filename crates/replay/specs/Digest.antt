-- The digest of a part, as the heads of the lists in data/ say it. Ours.
-- Assumes nothing.
use Rattle.std.specs.Prelude.{ℕ, ◌+◌, ◌*◌, ◌%◌, List, fold}

-- a digest with one more entry
abbrev pub digested : ℕ → ℕ → ℕ
digested d entry = (17 * d + entry % 65521 + 1) % 65521

-- of the numbers that stand for the entries
abbrev pub digest_of : List ℕ → ℕ
digest_of entries = fold digested 0 entries
