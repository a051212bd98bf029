-- A vector that a loop has filled to its end.
-- Assumes nothing.
use Prim.Native.Nat.{ℕ}
use mathlib.Core.Path.{◌≡◌, sym, ◌∙◌}
use mathlib.Core.List.{List}
use lib.Ieee.{Float}
use lib.ListN.{length}
use Rattle.lists.specs.Laid.{laid}
use Rattle.lists.specs.Values.{values}
use Rattle.lists.proofs.Laid.{fill_end, fill_all}

pub filled : (f : ℕ → Float) (k : ℕ) (p q : List Float) → k ≡ 32 → length p ≡ 32 → q ≡ laid (values k f) p → q ≡ values 32 f
filled f k p q e n h = fill_end f 32 k p q e h ∙ fill_all f 32 p (sym n)
