use Rattle.std.proofs.Common.{◌≡◌, ◌≤◌, length, Ok}
use Rattle.std.specs.Iterator.Adapters.{rev_source}
use Rattle.std.specs.Slice.Iter.{iter_rest}
use Rattle.engines.specs.Stacks.{held}
use Rattle.engines.specs.Values.{worked}
use Rattle.engines.proofs.evaluation.work_out.Given as goal

-- the nodes that are left, over the results of those after them
abbrev pub invariant-loop-node : goal.invariant-loop-node
invariant-loop-node g l =
    (goal.iterator-loop-node g).can_next l.node-iterator × (goal.iterator-loop-node g).is_finite l.node-iterator
    × (length (iter_rest (rev_source l.node-iterator)) ≤ l.stack.top)
    × (worked (g.E.Engine.rule l.engine) l.nodes (Ok (held l.initial.stack)) ≡ worked (g.E.Engine.rule l.engine) (iter_rest (rev_source l.node-iterator)) (Ok (held l.stack)))
