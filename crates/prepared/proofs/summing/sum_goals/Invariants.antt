use Rattle.std.proofs.Common.{◌≡◌, map, vec_items}
use Rattle.std.specs.List.{range_with_len}
use Rattle.spaces.specs.TableSpaces.{table_space}
use Rattle.prepared.specs.Sums.{goal_sums}
use Rattle.prepared.proofs.summing.sum_goals.Given as goal

abbrev pub invariant-loop-goal : goal.invariant-loop-goal
invariant-loop-goal l =
    map vec_items l.sums.items ≡ map (goal_sums (table_space l.counted.space.now)) (range_with_len 0 l.goal)
