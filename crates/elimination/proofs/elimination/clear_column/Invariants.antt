use Rattle.std.proofs.Common.{◌≡◌, length}
use Rattle.elimination.specs.Matrix.{Matrix}
use Rattle.elimination.specs.Standing.{Holds}
use Rattle.elimination.proofs.Clearing.{rows_cleared}
use Rattle.elimination.proofs.elimination.clear_column.Given as goal

abbrev pub invariant-loop-i : goal.invariant-loop-i
invariant-loop-i l = record {
  long : length l.h ≡ 65536;
  held : (g : Matrix) → Holds l.m l.n g l.initial.h → Holds l.m l.n (rows_cleared l.i l.r l.c g) l.h;
}
