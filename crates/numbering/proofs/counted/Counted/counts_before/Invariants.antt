use Rattle.std.proofs.Common.{◌≡◌, ◌≢◌, ◌++◌}
use Rattle.std.specs.List.{AllByRecursion}
use Rattle.spaces.specs.Spaces.{ahead}
use Rattle.numbering.specs.Plans.{all_ways, count}
use Rattle.numbering.proofs.counted.Counted.counts_before.Given as goal

abbrev pub invariant-loop-alternative : goal.invariant-loop-alternative
invariant-loop-alternative g l =
    let m = g.Self.Space.meaning in
    (l.yielded ++ ahead m l.alternative-iterator ≡ (m l.self).lists l.node.goal)
    × (l.before ≡ all_ways (count (m l.self)) l.yielded)
    × AllByRecursion (λ a. a ≢ l.node.alternative) l.yielded
