use Rattle.std.proofs.Common.{rules, length, Ok}
use Rattle.numbering.specs.Ranks.{Unranked, unrank_checks}
use Rattle.numbering.specs.Refusals.{first_of}
use Rattle.numbering.proofs.Only.{unranked_only}
use Rattle.prepared.specs.Prepares.{table}
use Rattle.prepared.proofs.prepared.Prepared.unrank.Goals as goal

pub returns-in_err-plans-clause-only : goal.returns-in_err-plans-clause-only
returns-in_err-plans-clause-only c =
    let m = table c.args.self.now in
    let plan = c.args.plan.now in
    let o = first_of (unrank_checks m c.args.number m.goals (length c.args.work.now) (length plan)) in
    let answer : Unranked m o c.args.number c.from_residual.result plan plan = search rules in
    unranked_only m c.args.self.now.table.lawful o c.args.number _ plan plan answer

pub returns-clause-only : goal.returns-clause-only
returns-clause-only c =
    let m = table c.args.self.now in
    let plan = c.args.plan.now in
    let o = first_of (unrank_checks m c.args.number m.goals (length c.args.work.now) (length plan)) in
    let answer : Unranked m o c.args.number (Ok c.write_plan.result) plan c.write_plan.new.plan = search rules in
    unranked_only m c.args.self.now.table.lawful o c.args.number _ plan _ answer
