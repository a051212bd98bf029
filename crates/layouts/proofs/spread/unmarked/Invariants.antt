use Rattle.std.proofs.Common.{◌≡◌, ◌≤◌, false, not, length, get_or}
use Rattle.lists.specs.Keep.{keep_below}
use Rattle.layouts.proofs.spread.unmarked.Given as goal

abbrev pub invariant-loop-x : goal.invariant-loop-x
invariant-loop-x l = record {
  few : length l.free.items ≤ l.x;
  kept : l.free.items ≡ keep_below (λ x. not (get_or l.marks x false)) l.x;
}
