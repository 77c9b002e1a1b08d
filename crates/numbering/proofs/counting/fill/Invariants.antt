use Rattle.std.proofs.Common.{◌≡◌}
use Rattle.numbering.specs.Tallies.{filled}
use Rattle.numbering.proofs.counting.fill.Given as goal

abbrev pub invariant-loop-goal : goal.invariant-loop-goal
invariant-loop-goal g l = l.tallies ≡ filled (g.S.Space.meaning l.space) l.goal l.initial.tallies
