use mathlib.Core.Path.{◌≡◌}
use mathlib.Core.Bool.{not, ◌||◌}
use Prim.Native.Nat.{ℕ}
use lib.Dec.{eqb}
use lib.ListN.{drop}
use Rattle.std.specs.List.{list_any}
use Rattle.lent.proofs.malformed.used_past.Given as goal

abbrev pub invariant-loop-x : goal.invariant-loop-x
invariant-loop-x g l = (value : g.row.T.Denot → ℕ) → ((x : g.row.T.Denot) (y : ℕ) → g.T.Into.converts x y → y ≡ value x)
    → (not (eqb l.any 0) || list_any (λ x. not (eqb (value x) 0)) (drop l.x-index (drop l.k l.part))) ≡ list_any (λ x. not (eqb (value x) 0)) (drop l.k l.part)
