use Rattle.std.proofs.Common.{rules, ◌≡◌, true, false, leb}
use Rattle.std.specs.List.Sorted.{IsPartitionPoint}
use Rattle.std.proofs.lemmas.List.Sorted.{IsPartitionPoint-from_clause, IsPartitionedBy-leb}
use Rattle.prepared.proofs.Falling as falling
use Rattle.prepared.proofs.seeking.seek.Goals as goal
use Rattle.prepared.proofs.seeking.seek.Goals.{After-partition_point-past}

point : (c : After-partition_point-past) → IsPartitionPoint (λ y. leb y c.args.number ≡ true) (λ y. leb y c.args.number ≡ false) c.args.sums.now c.partition_point-past.result
point c =
    IsPartitionPoint-from_clause (λ y. leb y c.args.number) _ _ c.partition_point-past.ensures.partitioned (IsPartitionedBy-leb (λ x. x) _ c.args.number c.requires.sorted) (λ a r f' k. search rules)

pub overflow_sub-result : goal.overflow_sub-result
overflow_sub-result c = falling.past_first _ c.args.number _ c.requires.some c.requires.low c.partition_point-past.ensures.bound (point c)

pub returns : goal.returns
returns c = falling.sought _ c.args.number _ c.requires.some c.requires.low c.partition_point-past.ensures.bound (point (goal.at.returns c).After-partition_point-past)
