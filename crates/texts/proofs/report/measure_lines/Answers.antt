use Rattle.texts.proofs.Reports.{measuring_end, measuring_more, measuring_start}
use Rattle.texts.proofs.report.measure_lines.Goals as goal

pub loop-number-init : goal.loop-number-init
loop-number-init g c =
    let s = c.args.counted.now in
    measuring_start (g.C.Space.meaning s) (g.met.C.Space.lawful s) c.args.numbers.now

pub loop-number-preserved : goal.loop-number-preserved
loop-number-preserved g c =
    let s = c.args.counted.now in
    measuring_more (g.C.Space.meaning s) (g.met.C.Space.lawful s) c.args.numbers.now c.loop-number.number-index c.loop-number.total c.measure_line-total.result
    c.loop-number-test.true c.loop-number.invariant c.measure_line-total.ensures

pub returns : goal.returns
returns g c =
    let s = c.args.counted.now in
    measuring_end (g.C.Space.meaning s) (g.met.C.Space.lawful s) c.args.numbers.now c.loop-number.number-index c.loop-number.total c.loop-number-test.false c.loop-number.invariant
