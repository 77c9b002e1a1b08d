use Rattle.std.proofs.Common.{length, take, arith}
use Rattle.prepared.specs.Prepares.{table}
use Rattle.prepared.proofs.Held.{law_of}
use Rattle.campaigns.specs.Refusals.{lent_of}
use Rattle.campaigns.specs.Verdicts.{by_engine}
use Rattle.campaigns.proofs.Going.{draw_stops, one_turn, run_stops}
use Rattle.campaigns.proofs.Listed.{numbered_most}
use Rattle.campaigns.proofs.conduct.draw_and_run_prepared.Goals as goal

pub returns-in_err-pending-clause-conducted : goal.returns-in_err-pending-clause-conducted
returns-in_err-pending-clause-conducted g c =
    let a = c.args in
    let m = table a.space.now in
    let verdict = by_engine (g.E.Engine.rule a.engine.now) (g.E.Engine.alike a.engine.now) m in
    let e = c.in_err-pending in
    draw_stops m verdict (lent_of m.goals (length a.work.now) (length a.plan.now)) a.plan.now c.draw_prepared.new.plan a.ready a.finds.now
    e.field-0.0 c.from_residual.result c.from_residual.ensures.1 e.ensures.answer

pub run_drawn-requires-clause-fits : goal.run_drawn-requires-clause-fits
run_drawn-requires-clause-fits g c =
    let p = c.args.space.now in
    let d = c.in_ok-pending in
    omega (arith, numbered_most (table p) (law_of p) (take d.field-0.len c.draw_prepared.new.plan) d.field-0.number d.ensures.drawn, d.ensures.answer.1.3)

pub returns-in_err-ready-clause-conducted : goal.returns-in_err-ready-clause-conducted
returns-in_err-ready-clause-conducted g c =
    let a = c.args in
    let m = table a.space.now in
    let verdict = by_engine (g.E.Engine.rule a.engine.now) (g.E.Engine.alike a.engine.now) m in
    let d = c.in_ok-pending in
    let e = c.in_err-ready in
    run_stops m verdict (lent_of m.goals (length a.work.now) (length a.plan.now)) a.plan.now c.draw_prepared.new.plan a.ready a.finds.now
    d.field-0 d.ensures.answer (lent_of m.goals (length c.draw_prepared.new.work) (length c.draw_prepared.new.plan)) (length a.values.now) c.run_drawn.new.finds
    e.field-0.0 c.from_residual-in_err-ready.result c.from_residual-in_err-ready.ensures.1 e.ensures.answer

pub returns-clause-conducted : goal.returns-clause-conducted
returns-clause-conducted g c =
    let a = c.args in
    let m = table a.space.now in
    let verdict = by_engine (g.E.Engine.rule a.engine.now) (g.E.Engine.alike a.engine.now) m in
    let d = c.in_ok-pending in
    one_turn m verdict (lent_of m.goals (length a.work.now) (length a.plan.now)) a.plan.now c.draw_prepared.new.plan a.ready a.finds.now
    d.field-0 d.ensures.answer (lent_of m.goals (length c.draw_prepared.new.work) (length c.draw_prepared.new.plan)) (length a.values.now) c.run_drawn.new.finds
    c.in_ok-ready.field-0 c.in_ok-ready.ensures.answer
