use Rattle.std.proofs.Common.{length, refl}
use Rattle.prepared.specs.Prepares.{table}
use Rattle.campaigns.specs.Refusals.{lent_of}
use Rattle.campaigns.proofs.Passed.{passed_some}
use Rattle.campaigns.proofs.Ruled.{beside_refused}
use Rattle.campaigns.proofs.Told.{every_history_with}
use Rattle.campaigns.proofs.campaign.Pending.run_prepared.Goals as goal

pub returns-in-Err-clause-answer : goal.returns-in-Err-clause-answer
returns-in-Err-clause-answer g c =
    let a = c.args in
    let m = table a.space.now in
    beside_refused m (lent_of m.goals (length a.work.now) (length a.plan.now)) (length a.values.now) a.self
    (record { pending = a.self; why = c.in-Err.why }) (passed_some _ _ c.in-Err.ensures.answer)
    (g.E.Engine.rule a.engine.now) (g.E.Engine.alike a.engine.now) a.baseline.now.kept a.finds.now a.plan.now refl

pub returns-in-Err-clause-histories : goal.returns-in-Err-clause-histories
returns-in-Err-clause-histories g c = every_history_with _ _ (g.met.E.Engine.reflexive c.args.engine.now)

pub returns-clause-histories : goal.returns-clause-histories
returns-clause-histories g c = every_history_with _ _ (g.met.E.Engine.reflexive c.args.engine.now)
