use Rattle.texts.proofs.Reports.{Writing}
use Rattle.texts.proofs.report.write_lines.Given as goal

abbrev pub invariant-loop-number : goal.invariant-loop-number
invariant-loop-number g l = Writing (g.C.Space.meaning l.counted) (g.met.C.Space.lawful l.counted) l.numbers l.number-index l.initial.writer l.writer
