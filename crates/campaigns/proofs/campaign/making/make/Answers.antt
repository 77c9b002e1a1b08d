use Rattle.campaigns.proofs.Shared.{step_rule}
use Rattle.campaigns.proofs.campaign.making.make.Goals as goal

pub returns-in_err-plans-clause-steps : goal.returns-in_err-plans-clause-steps
returns-in_err-plans-clause-steps g c = step_rule

pub returns-clause-steps : goal.returns-clause-steps
returns-clause-steps g c = step_rule
