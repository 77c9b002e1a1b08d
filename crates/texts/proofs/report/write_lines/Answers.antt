use Rattle.texts.proofs.Reports.{writing_end, writing_more, writing_room, writing_start}
use Rattle.texts.proofs.report.write_lines.Goals as goal

pub loop-number-init : goal.loop-number-init
loop-number-init g c =
    let s = c.args.counted.now in
    writing_start (g.C.Space.meaning s) (g.met.C.Space.lawful s) c.args.numbers.now c.args.writer.now

pub write_line-requires-clause-room : goal.write_line-requires-clause-room
write_line-requires-clause-room g c =
    let s = c.args.counted.now in
    writing_room (g.C.Space.meaning s) (g.met.C.Space.lawful s) c.args.numbers.now c.loop-number.number-index c.args.writer.now c.loop-number.writer
    c.loop-number-test.true c.requires.below c.loop-number.invariant c.requires.room

pub loop-number-preserved : goal.loop-number-preserved
loop-number-preserved g c =
    let s = c.args.counted.now in
    writing_more (g.C.Space.meaning s) (g.met.C.Space.lawful s) c.args.numbers.now c.loop-number.number-index c.args.writer.now c.loop-number.writer c.write_line.new.writer
    c.loop-number-test.true c.loop-number.invariant c.write_line.ensures

pub returns : goal.returns
returns g c =
    let s = c.args.counted.now in
    writing_end (g.C.Space.meaning s) (g.met.C.Space.lawful s) c.args.numbers.now c.loop-number.number-index c.args.writer.now c.loop-number.writer
    c.loop-number-test.false c.loop-number.invariant
