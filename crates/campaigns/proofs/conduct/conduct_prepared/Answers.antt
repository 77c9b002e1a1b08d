use Rattle.std.proofs.Common.{◌+◌, Ok, refl, arith}
use mathlib.Core.Path.{subst⁻¹}
use Rattle.prepared.specs.Prepares.{table}
use Rattle.campaigns.specs.Baselines.{Keeps}
use Rattle.campaigns.specs.Verdicts.{by_engine}
use Rattle.campaigns.proofs.Going.{goes_on, histories_go_on, no_turn, stops}
use Rattle.campaigns.proofs.Told.{every_history_with}
use Rattle.campaigns.proofs.conduct.conduct_prepared.Goals as goal

pub loop-init : goal.loop-init
loop-init g c =
    let a = c.args in
    let m = table a.space.now in
    let rule = g.E.Engine.rule a.engine.now in (
      no_turn m (by_engine rule (g.E.Engine.alike a.engine.now) m) a.ready a.finds.now,
      subst⁻¹ (Keeps rule m a.ready.baseline) c.new-baseline.ensures tt,
    )

pub draw_and_run_prepared-requires : goal.draw_and_run_prepared-requires
draw_and_run_prepared-requires g c = c.loop.invariant.1

pub loop-preserved : goal.loop-preserved
loop-preserved g c =
    let a = c.args in
    let m = table a.space.now in
    let rule = g.E.Engine.rule a.engine.now in
    let k = c.loop.counter in
    let turn = c.in_ok-state in (
      goes_on m (by_engine rule (g.E.Engine.alike a.engine.now) m) k (k + 1) a.ready c.loop.state a.finds.now c.loop.finds c.draw_and_run_prepared.new.finds (Ok turn.state) refl c.loop.invariant.0 turn.ensures.conducted,
      subst⁻¹ (λ b. Keeps rule m b c.draw_and_run_prepared.new.baseline.kept) turn.ensures.beside turn.ensures.keeps,
    )

pub returns-in_err-state : goal.returns-in_err-state
returns-in_err-state g c =
    let a = c.args in
    let m = table a.space.now in
    let rule = g.E.Engine.rule a.engine.now in
    let alike = g.E.Engine.alike a.engine.now in
    let e = c.in_err-state in
    record {
      conducted = stops m (by_engine rule alike m) c.loop.counter a.limit a.ready c.loop.state a.finds.now c.loop.finds c.draw_and_run_prepared.new.finds e.field-0.0 c.from_residual.result
          (omega arith) c.loop.invariant.0 e.ensures.conducted c.from_residual.ensures.1;
      continued = histories_go_on m (by_engine rule alike m);
      histories = every_history_with rule alike (g.met.E.Engine.reflexive a.engine.now);
    }

pub returns-clause-continued : goal.returns-clause-continued
returns-clause-continued g c =
    let a = c.args in
    let m = table a.space.now in
    histories_go_on m (by_engine (g.E.Engine.rule a.engine.now) (g.E.Engine.alike a.engine.now) m)

pub returns-clause-histories : goal.returns-clause-histories
returns-clause-histories g c = every_history_with _ _ (g.met.E.Engine.reflexive c.args.engine.now)
