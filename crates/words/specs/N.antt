-- The call n: how many symbols a code's words have. nb.rs, `n`.
-- Assumes nothing.
use Rattle.std.specs.Prelude.{ℕ}
use Rattle.lent.specs.Held.{Held}
use Rattle.lent.specs.LentCode.{graph_of}

abbrev pub n_of : Held → ℕ
n_of l = (graph_of l).n
