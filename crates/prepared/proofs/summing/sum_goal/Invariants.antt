use Rattle.std.proofs.Common.{◌≡◌, map, vec_items}
use Rattle.std.specs.List.{range_with_len}
use Rattle.spaces.specs.TableSpaces.{table_space}
use Rattle.prepared.specs.Sums.{sum_before}
use Rattle.prepared.proofs.summing.sum_goal.Given as goal

abbrev pub invariant-loop-alternative : goal.invariant-loop-alternative
invariant-loop-alternative l =
    let m = table_space l.counted.space.now in
    (vec_items l.sums ≡ map (sum_before m l.goal) (range_with_len 0 l.alternative-index)) × (l.before ≡ sum_before m l.goal l.alternative-index)
