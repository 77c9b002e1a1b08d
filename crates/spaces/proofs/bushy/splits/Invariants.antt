use Rattle.std.proofs.Common.{vec_items}
use Rattle.spaces.proofs.Parts.{Splitting}
use Rattle.spaces.proofs.bushy.splits.Given as goal

abbrev pub invariant-loop-right : goal.invariant-loop-right
invariant-loop-right l = Splitting l.join l.set (vec_items l.list) l.right

abbrev pub decreases-loop-right : goal.decreases-loop-right
decreases-loop-right l = l.right
