use Rattle.std.proofs.Common.{length, Err, refl, ap, ◌∙◌, arith, rules}
use Rattle.std.proofs.lemmas.Result.{err_from_is_err_and}
use Rattle.numbering.specs.declared.refusal.Refusal.TheVariants.{NoSuchPlan}
use Rattle.numbering.specs.Refusals.{first_of}
use Rattle.texts.specs.Reports.{report_checks}
use Rattle.texts.proofs.ReportAnswers as answers
use Rattle.texts.proofs.report.report.Goals as goal

pub returns-in_err-plans : goal.returns-in_err-plans
returns-in_err-plans g c =
    let m = g.S.Space.meaning c.args.space.now in
    let xs = c.args.numbers.now in
    let p = err_from_is_err_and c.from_residual.result c.from_residual.ensures.1 in
    record {
      answer = answers.reported_refused m (first_of (report_checks m xs (length c.args.tallies.now) (length c.args.work.now) (length c.args.plan.now))) xs
          c.from_residual.result c.in_err-plans.field-0.0 c.args.text.now (answers.report_stays m xs _ _ _ _ c.in_err-plans.ensures.answer) (p.1 ∙ ap Err p.2);
      tallies = c.ready_to_write.ensures.tallies;
      plan = answers.untouched _ c.args.plan.now;
    }

pub returns-then-any_past_limit : goal.returns-then-any_past_limit
returns-then-any_past_limit g c =
    let m = g.S.Space.meaning c.args.space.now in
    let xs = c.args.numbers.now in
    record {
      answer = answers.reported_refused m (first_of (report_checks m xs (length c.args.tallies.now) (length c.args.work.now) (length c.args.plan.now))) xs
          (Err NoSuchPlan) NoSuchPlan c.args.text.now
          (answers.report_here m xs _ _ _ c.in_ok-plans.plans c.in_ok-plans.field-0-1 c.in_ok-plans.ensures.answer c.if-any_past_limit.ensures) refl;
      tallies = c.ready_to_write.ensures.tallies;
      plan = answers.untouched _ c.args.plan.now;
    }

pub measure_lines-len-requires : goal.measure_lines-len-requires
measure_lines-len-requires g c =
    let m = g.S.Space.meaning c.args.space.now in
    let xs = c.args.numbers.now in
    let ready = c.in_ok-plans.ensures.standing in
    record {
      room_for_plan = record { work_room = ready.1; plan_room = ready.2 };
      below = answers.none_past m xs _ _ _ c.in_ok-plans.plans c.in_ok-plans.field-0-1 c.in_ok-plans.ensures.answer c.if-any_past_limit.ensures;
    }

pub returns-then-len-text : goal.returns-then-len-text
returns-then-len-text g c =
    let s = c.args.space.now in
    let m = g.S.Space.meaning s in
    let xs = c.args.numbers.now in
    let told = c.in_ok-plans.ensures.answer in
    let below = answers.none_past m xs _ _ _ c.in_ok-plans.plans c.in_ok-plans.field-0-1 told c.if-any_past_limit.ensures in
    record {
      answer = answers.reported_short m (g.met.S.Space.lawful s) _ xs (answers.report_past m xs _ _ _ c.in_ok-plans.plans c.in_ok-plans.field-0-1 told below) below
          c.measure_lines-len.result c.args.text.now c.measure_lines-len.ensures c.if-len-text.true;
      tallies = c.ready_to_write.ensures.tallies;
      plan = answers.may_touch m xs _ _ _ c.in_ok-plans.plans c.in_ok-plans.field-0-1 told _ _;
    }

pub write_lines-requires : goal.write_lines-requires
write_lines-requires g c =
    let m = g.S.Space.meaning c.args.space.now in
    let xs = c.args.numbers.now in
    let ready = c.in_ok-plans.ensures.standing in
    record {
      room_for_plan = record { work_room = omega (arith, ready.1, c.measure_lines-len.auto.work); plan_room = omega (arith, ready.2, c.measure_lines-len.auto.plan) };
      below = answers.none_past m xs _ _ _ c.in_ok-plans.plans c.in_ok-plans.field-0-1 c.in_ok-plans.ensures.answer c.if-any_past_limit.ensures;
      room = λ bytes p. omega (arith, c.measure_lines-len.ensures bytes p, c.if-len-text.false, ap length c.new-writer.ensures.out);
    }

pub returns : goal.returns
returns g c =
    let s = c.args.space.now in
    let m = g.S.Space.meaning s in
    let xs = c.args.numbers.now in
    let told = c.in_ok-plans.ensures.answer in
    let below = answers.none_past m xs _ _ _ c.in_ok-plans.plans c.in_ok-plans.field-0-1 told c.if-any_past_limit.ensures in
    record {
      answer = answers.reported_written m (g.met.S.Space.lawful s) _ xs (answers.report_past m xs _ _ _ c.in_ok-plans.plans c.in_ok-plans.field-0-1 told below) below
          c.measure_lines-len.result c.args.text.now _ c.measure_lines-len.ensures c.if-len-text.false (λ bytes p. let done = c.write_lines.ensures bytes p in search rules);
      tallies = c.ready_to_write.ensures.tallies;
      plan = answers.may_touch m xs _ _ _ c.in_ok-plans.plans c.in_ok-plans.field-0-1 told _ _;
    }
