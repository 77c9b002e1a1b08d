use Rattle.std.proofs.Common.{length}
use Rattle.texts.proofs.ReportAnswers.{lined}
use Rattle.texts.proofs.report.line.Goals as goal

pub returns : goal.returns
returns g c =
    record {
      answer = lined (g.S.Space.meaning c.args.space.now) c.args.number (length c.args.tallies.now) (length c.args.work.now) (length c.args.plan.now) c.report.result
          c.args.text.now c.report.new.text c.report.ensures.answer;
      tallies = c.report.ensures.tallies;
      plan = c.report.ensures.plan;
    }
