-- The score of a word, the sum of its symbols' metrics, and the running score where another word is added. nb.rs, `list_decode`, `score` and `cur`.
-- Assumes nothing.
use Rattle.std.specs.Prelude.{ℕ, ◌+◌, ◌*◌, List, eqb, Float, length}
use Rattle.std.specs.Int.Bits.{bit_xor}
use Rattle.std.specs.Float.{binary32}
use Rattle.std.specs.Float.Ieee.{add, sub}
use Rattle.lists.specs.Choice.{pick}
use Rattle.lists.specs.Entry.{nth}
use Rattle.lists.specs.Iter.{iter}
use Rattle.vectors.specs.Float32.{zero32}
use Rattle.vectors.specs.Vector.{at}

-- the metric of value x at position v
abbrev pub metric_at : List Float → ℕ → ℕ → Float
metric_at metrics v x = at metrics (v * 32 + x)

unfoldable pub score : List Float → List ℕ → Float
score metrics word = iter (length word) (λ v s. add binary32 s (metric_at metrics v (nth word v))) zero32

-- at each position where g is not 0, in order, the new symbol's metric less the old one's is added
abbrev pub change_turn : List Float → List ℕ → List ℕ → ℕ → Float → Float
change_turn metrics g word v s =
    pick (eqb (nth g v) 0) s (add binary32 s (sub binary32 (metric_at metrics v (bit_xor (nth word v) (nth g v))) (metric_at metrics v (nth word v))))

unfoldable pub score_after : List Float → List ℕ → List ℕ → Float → Float
score_after metrics g word s = iter (length word) (change_turn metrics g word) s
