use Rattle.std.proofs.Common.{◌≡◌, ◌≤◌, ◌++◌, filter, length}
use Rattle.spaces.specs.Spaces.{ahead}
use Rattle.spaces.proofs.keep.kept_or_width.Given as goal

abbrev pub invariant-loop-alternative : goal.invariant-loop-alternative
invariant-loop-alternative g l =
    let m = g.S.Space.meaning in
    (l.yielded ++ ahead m l.alternative-iterator ≡ (m l.below).lists l.goal)
    × (l.passed ≡ length (filter (g.T.Test.picks l.test) l.yielded))
    × (l.passed ≤ l.index)
    × (l.place ≡ length l.yielded)
