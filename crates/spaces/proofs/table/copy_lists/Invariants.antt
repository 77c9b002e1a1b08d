use Rattle.std.proofs.Common.{◌≡◌, map}
use Rattle.std.specs.List.{range_with_len}
use Rattle.spaces.specs.Tables.{held}
use Rattle.spaces.proofs.table.copy_lists.Given as goal

abbrev pub invariant-loop-goal : goal.invariant-loop-goal
invariant-loop-goal g l = held l.lists.items ≡ map (g.S.Space.meaning l.space).lists (range_with_len 0 l.goal)
