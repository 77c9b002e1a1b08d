use Rattle.texts.proofs.Reports.{Measuring}
use Rattle.texts.proofs.report.measure_lines.Given as goal

abbrev pub invariant-loop-number : goal.invariant-loop-number
invariant-loop-number g l = Measuring (g.C.Space.meaning l.counted) (g.met.C.Space.lawful l.counted) l.numbers l.number-index l.total
