-- `peeling::edges::Edges::check_of` meets its contract: the starts rise.
use mathlib.Core.Path.{◌≡◌}
use mathlib.Core.Bool.{true, false}
use lib.Dec.{leb}
use Rattle.std.proofs.Common.{rules}
use Rattle.std.specs.List.Sorted.{IsPartitionPoint}
use Rattle.std.proofs.lemmas.List.Sorted.{IsPartitionPoint-from_clause, IsPartitionedBy-leb}
use Rattle.peeling.proofs.EdgeLists.{starts, starts_rise, check_past, check_found}
use Rattle.peeling.proofs.edges.Edges.check_of.Goals.{After-partition_point}
use Rattle.peeling.proofs.edges.Edges.check_of.Goals as goal

split : (c : After-partition_point) → IsPartitionPoint (λ y. leb y c.args.e ≡ true) (λ y. leb y c.args.e ≡ false) (starts c.args.self.now) c.partition_point.result
split c =
    IsPartitionPoint-from_clause (λ y. leb y c.args.e) (starts c.args.self.now) _ c.partition_point.ensures.partitioned
    (IsPartitionedBy-leb (λ y. y) _ c.args.e (starts_rise c.args.self.now)) (λ a r f' k. search rules)

pub overflow_sub-result : goal.overflow_sub-result
overflow_sub-result c = check_past c.args.self.now c.args.e c.partition_point.result c.requires c.partition_point.ensures.bound (split c)

pub returns : goal.returns
returns c = check_found c.args.self.now c.args.e c.partition_point.result c.requires c.partition_point.ensures.bound (split c)
