use Rattle.std.proofs.Common.{◌≡◌, ◌+◌, ◌≤◌}
use Rattle.spaces.specs.Bushes.{deposit}
use Rattle.spaces.proofs.bushy.carried.Given as goal

abbrev pub invariant-loop-rest : goal.invariant-loop-rest
invariant-loop-rest l = (l.rest ≤ l.mask) × (l.left + deposit 16 l.rest l.ahead ≡ deposit 16 l.mask l.bits)

abbrev pub decreases-loop-rest : goal.decreases-loop-rest
decreases-loop-rest l = l.rest
