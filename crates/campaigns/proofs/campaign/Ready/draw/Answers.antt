use Rattle.campaigns.proofs.Drawings.{next_numbers}
use Rattle.campaigns.proofs.Kept.{every_history}
use Rattle.campaigns.proofs.campaign.Ready.draw.Goals as goal

pub returns-in-Err-clause-histories : goal.returns-in-Err-clause-histories
returns-in-Err-clause-histories g c = every_history

pub returns-in-Ok-clause-drawn : goal.returns-in-Ok-clause-drawn
returns-in-Ok-clause-drawn g c =
    let a = c.args in
    let d = c.draw_next in
    next_numbers (g.S.Space.meaning a.space.now) (g.met.S.Space.lawful a.space.now) a.self a.plan.now d.new.plan d.result c.in-Ok.ensures.standing.3 d.ensures

pub returns-in-Ok-clause-histories : goal.returns-in-Ok-clause-histories
returns-in-Ok-clause-histories g c = every_history
