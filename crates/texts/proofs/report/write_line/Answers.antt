use Rattle.texts.proofs.Reports.{written_line}
use Rattle.texts.proofs.report.write_line.Goals as goal

pub line-requires : goal.line-requires
line-requires g c =
    let s = c.args.counted.now in
    c.requires.room _
    (written_line (g.C.Space.meaning s) (g.met.C.Space.lawful s) c.args.number c.write_plan-len.result c.args.plan.now c.write_plan-len.new.plan c.write_plan-len.ensures)

pub returns : goal.returns
returns g c =
    let s = c.args.counted.now in
    record {
      bytes = _;
      line = written_line (g.C.Space.meaning s) (g.met.C.Space.lawful s) c.args.number c.write_plan-len.result c.args.plan.now c.write_plan-len.new.plan c.write_plan-len.ensures;
      writes = c.line.ensures;
    }
