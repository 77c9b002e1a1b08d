use Rattle.std.proofs.Common.{◌≤◌}
use Rattle.numbering.specs.Dues.{popped}
use Rattle.numbering.specs.Refusals.{largest}
use Rattle.numbering.proofs.Progress.{Reading}
use Rattle.numbering.proofs.reading.number_of.Given as goal

abbrev pub invariant-loop-place : goal.invariant-loop-place
invariant-loop-place g l =
    let m = g.C.Space.meaning l.counted in
    Reading m l.nodes l.place (popped l.next l.stack.dues) l.number × (largest m ≤ l.stack.room)
