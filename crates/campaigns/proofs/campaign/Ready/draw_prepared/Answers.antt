use Rattle.prepared.specs.Prepares.{table}
use Rattle.prepared.proofs.Held.{law_of}
use Rattle.campaigns.proofs.Drawings.{next_numbers}
use Rattle.campaigns.proofs.Kept.{every_history}
use Rattle.campaigns.proofs.campaign.Ready.draw_prepared.Goals as goal

pub returns-in-Err-clause-histories : goal.returns-in-Err-clause-histories
returns-in-Err-clause-histories c = every_history

pub returns-in-Ok-clause-drawn : goal.returns-in-Ok-clause-drawn
returns-in-Ok-clause-drawn c =
    let a = c.args in
    let d = c.draw_next in
    next_numbers (table a.space.now) (law_of a.space.now) a.self a.plan.now d.new.plan d.result c.in-Ok.ensures.room.2 d.ensures

pub returns-in-Ok-clause-histories : goal.returns-in-Ok-clause-histories
returns-in-Ok-clause-histories c = every_history
