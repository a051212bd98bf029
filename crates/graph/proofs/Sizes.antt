-- What numbers 2 and 3 leave of the sizes and the parts of a code.
-- Assumes nothing.
use Prim.Native.Nat.{ℕ, ◌≤◌}
use mathlib.Core.Path.{◌≡◌}
use mathlib.Core.Bool.{false}
use borrow.Author.Tests.{ltb-false}
use lib.Dec.{ltb}
use Rattle.lists.proofs.Cases.{neither}
use Rattle.calls.proofs.Refusals.{Alike}
use Rattle.graph.specs.Sizes.{too_large, code_lengths}
use Rattle.graph.specs.Parts.{Parts}
use Rattle.graph.specs.Buildable.{PartsFit}

pub sizes_small : (n m : ℕ) → too_large n m ≡ false → (n ≤ 256) × (m ≤ 256)
sizes_small n m e = let r = neither (ltb 256 n) (ltb 256 m) e in (ltb-false 256 n r.0, ltb-false 256 m r.1)

pub parts_fit : (p : Parts) → Alike (code_lengths p) → PartsFit p
parts_fit p a = record {
  var = a.0;
  coef = a.1.0;
  row = a.1.1.0;
  start = a.1.1.1.0;
  col = a.1.1.1.1.0;
  order = a.1.1.1.1.1.0;
  parity = a.1.1.1.1.1.1.0;
  info = a.1.1.1.1.1.1.1.0;
  a = a.1.1.1.1.1.1.1.1.0;
}
