use Rattle.std.proofs.Common.{length}
use Rattle.campaigns.specs.Refusals.{lent_of}
use Rattle.campaigns.specs.Verdicts.{by_engine}
use Rattle.campaigns.proofs.Going.{draw_stops, one_turn, run_stops}
use Rattle.campaigns.proofs.conduct.draw_and_run.Goals as goal

pub returns-in_err-pending : goal.returns-in_err-pending
returns-in_err-pending g c =
    let a = c.args in
    let m = g.S.Space.meaning a.space.now in
    let verdict = by_engine (g.E.Engine.rule a.engine.now) (g.E.Engine.alike a.engine.now) m in
    let e = c.in_err-pending in
    draw_stops m verdict (lent_of (length a.tallies.now) (length a.work.now) (length a.plan.now)) a.plan.now c.draw.new.plan a.ready a.finds.now
    e.field-0.0 c.from_residual.result c.from_residual.ensures.1 e.ensures.answer

pub returns-in_err-ready : goal.returns-in_err-ready
returns-in_err-ready g c =
    let a = c.args in
    let m = g.S.Space.meaning a.space.now in
    let verdict = by_engine (g.E.Engine.rule a.engine.now) (g.E.Engine.alike a.engine.now) m in
    let d = c.in_ok-pending in
    let e = c.in_err-ready in
    run_stops m verdict (lent_of (length a.tallies.now) (length a.work.now) (length a.plan.now)) a.plan.now c.draw.new.plan a.ready a.finds.now
    d.field-0 d.ensures.answer (lent_of (length c.draw.new.tallies) (length c.draw.new.work) (length c.draw.new.plan)) (length a.values.now) c.run.new.finds
    e.field-0.0 c.from_residual-in_err-ready.result c.from_residual-in_err-ready.ensures.1 e.ensures.answer

pub returns : goal.returns
returns g c =
    let a = c.args in
    let m = g.S.Space.meaning a.space.now in
    let verdict = by_engine (g.E.Engine.rule a.engine.now) (g.E.Engine.alike a.engine.now) m in
    let d = c.in_ok-pending in
    one_turn m verdict (lent_of (length a.tallies.now) (length a.work.now) (length a.plan.now)) a.plan.now c.draw.new.plan a.ready a.finds.now
    d.field-0 d.ensures.answer (lent_of (length c.draw.new.tallies) (length c.draw.new.work) (length c.draw.new.plan)) (length a.values.now) c.run.new.finds
    c.in_ok-ready.field-0 c.in_ok-ready.ensures.answer
