use Rattle.std.proofs.Common.{◌≡◌, ◌+◌, ◌++◌}
use Rattle.spaces.specs.Spaces.{ahead}
use Rattle.numbering.specs.Plans.{all_ways, count}
use Rattle.numbering.proofs.counted.Counted.pick.Given as goal

abbrev pub invariant-loop-alternative : goal.invariant-loop-alternative
invariant-loop-alternative g l =
    let m = g.Self.Space.meaning in
    (l.yielded ++ ahead m l.alternative-iterator ≡ (m l.self).lists l.goal) × (all_ways (count (m l.self)) l.yielded + l.rest ≡ l.number)
