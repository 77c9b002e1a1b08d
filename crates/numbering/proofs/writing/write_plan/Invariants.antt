use Rattle.std.proofs.Common.{◌≤◌}
use Rattle.numbering.specs.Refusals.{largest}
use Rattle.numbering.proofs.Writes.{Writing}
use Rattle.numbering.proofs.writing.write_plan.Given as goal

abbrev pub invariant-loop-len : goal.invariant-loop-len
invariant-loop-len g l =
    let m = g.C.Space.meaning l.counted in
    Writing m l.number l.initial.plan l.plan l.stack.dues l.len × (largest m ≤ l.stack.room)
