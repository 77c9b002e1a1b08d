use Rattle.std.proofs.Common.{length}
use Rattle.campaigns.specs.Refusals.{lent_of}
use Rattle.campaigns.specs.Verdicts.{by_engine}
use Rattle.campaigns.proofs.Passed.{passed_some}
use Rattle.campaigns.proofs.Ruled.{writes_refused}
use Rattle.campaigns.proofs.Told.{every_history_with}
use Rattle.campaigns.proofs.campaign.Pending.run.Goals as goal

pub returns-in-Err-clause-written : goal.returns-in-Err-clause-written
returns-in-Err-clause-written g c =
    let a = c.args in
    let m = g.S.Space.meaning a.space.now in
    writes_refused m (lent_of (length a.tallies.now) (length a.work.now) (length a.plan.now)) (length a.values.now) a.self
    (record { pending = a.self; why = c.in-Err.why }) (passed_some _ _ c.in-Err.ensures.answer)
    (by_engine (g.E.Engine.rule a.engine.now) (g.E.Engine.alike a.engine.now) m) a.plan.now

pub returns-in-Err-clause-histories : goal.returns-in-Err-clause-histories
returns-in-Err-clause-histories g c = every_history_with _ _ (g.met.E.Engine.reflexive c.args.engine.now)

pub returns-clause-histories : goal.returns-clause-histories
returns-clause-histories g c = every_history_with _ _ (g.met.E.Engine.reflexive c.args.engine.now)
