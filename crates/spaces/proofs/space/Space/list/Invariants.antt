use Rattle.std.proofs.Common.{◌≡◌, take, vec_items}
use Rattle.spaces.proofs.space.Space.list.Given as goal

abbrev pub invariant-loop-index : goal.invariant-loop-index
invariant-loop-index g l = vec_items l.list ≡ take l.index ((g.Self.Space.meaning l.self).lists l.goal)
