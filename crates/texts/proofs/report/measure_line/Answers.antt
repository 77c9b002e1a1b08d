use Rattle.std.proofs.Common.{arith}
use Rattle.texts.proofs.Reports.{written_few, written_line}
use Rattle.texts.proofs.report.measure_line.Goals as goal

pub returns : goal.returns
returns g c =
    let s = c.args.counted.now in
    record {
      bytes = _;
      line = written_line (g.C.Space.meaning s) (g.met.C.Space.lawful s) c.args.number c.write_plan-len.result c.args.plan.now c.write_plan-len.new.plan c.write_plan-len.ensures;
      long = c.line_length.ensures.same;
      few = omega (arith, c.line_length.ensures.few, written_few (g.C.Space.meaning s) (g.met.C.Space.lawful s) c.args.number c.write_plan-len.result c.args.plan.now c.write_plan-len.new.plan c.write_plan-len.ensures);
    }
