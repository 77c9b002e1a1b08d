use Rattle.std.proofs.Common.{◌+◌, Ok, refl, arith}
use Rattle.campaigns.specs.Verdicts.{by_engine}
use Rattle.campaigns.proofs.Going.{goes_on, histories_go_on, no_turn, stops}
use Rattle.campaigns.proofs.Told.{every_history_with}
use Rattle.campaigns.proofs.conduct.conduct.Goals as goal

pub loop-init : goal.loop-init
loop-init g c =
    let a = c.args in
    let m = g.S.Space.meaning a.space.now in
    no_turn m (by_engine (g.E.Engine.rule a.engine.now) (g.E.Engine.alike a.engine.now) m) a.ready a.finds.now

pub loop-preserved : goal.loop-preserved
loop-preserved g c =
    let a = c.args in
    let m = g.S.Space.meaning a.space.now in
    let k = c.loop.counter in
    goes_on m (by_engine (g.E.Engine.rule a.engine.now) (g.E.Engine.alike a.engine.now) m) k (k + 1) a.ready c.loop.state a.finds.now c.loop.finds c.draw_and_run.new.finds (Ok c.in_ok-state.state) refl c.loop.invariant c.in_ok-state.ensures

pub returns-in_err-state : goal.returns-in_err-state
returns-in_err-state g c =
    let a = c.args in
    let m = g.S.Space.meaning a.space.now in
    let rule = g.E.Engine.rule a.engine.now in
    let alike = g.E.Engine.alike a.engine.now in
    let e = c.in_err-state in
    record {
      conducted = stops m (by_engine rule alike m) c.loop.counter a.limit a.ready c.loop.state a.finds.now c.loop.finds c.draw_and_run.new.finds e.field-0.0 c.from_residual.result
          (omega arith) c.loop.invariant e.ensures c.from_residual.ensures.1;
      continued = histories_go_on m (by_engine rule alike m);
      histories = every_history_with rule alike (g.met.E.Engine.reflexive a.engine.now);
    }

pub returns-clause-continued : goal.returns-clause-continued
returns-clause-continued g c =
    let a = c.args in
    let m = g.S.Space.meaning a.space.now in
    histories_go_on m (by_engine (g.E.Engine.rule a.engine.now) (g.E.Engine.alike a.engine.now) m)

pub returns-clause-histories : goal.returns-clause-histories
returns-clause-histories g c = every_history_with _ _ (g.met.E.Engine.reflexive c.args.engine.now)
