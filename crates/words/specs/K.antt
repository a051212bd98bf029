-- The call k: how many information positions a code has. nb.rs, `k`.
-- Assumes nothing.
use Rattle.std.specs.Prelude.{ℕ, length}
use Rattle.lent.specs.Held.{Held}
use Rattle.lent.specs.LentCode.{graph_of}
use Rattle.words.specs.Encoding.{information_of}

abbrev pub k_of : Held → ℕ
k_of l = length (information_of (graph_of l) l.parts.order)
