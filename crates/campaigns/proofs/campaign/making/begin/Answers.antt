use Rattle.std.proofs.Common.{sym, arith}
use Rattle.campaigns.proofs.Shared.{usable_coprime}
use Rattle.campaigns.proofs.campaign.making.begin.Goals as goal

pub invariant_of-result-clause-coprime : goal.invariant_of-result-clause-coprime
invariant_of-result-clause-coprime c = usable_coprime c.args.n c.args.step (omega arith) (sym c.if-not-usable_step.ensures)
