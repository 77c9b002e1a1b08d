use Rattle.std.proofs.Common.{arith}
use Rattle.campaigns.proofs.Walks.{around}
use Rattle.campaigns.proofs.campaign.settling.onward.Goals as goal

pub returns-else-number-left : goal.returns-else-number-left
returns-else-number-left c = around c.args.n c.args.step c.args.number (omega arith) (omega arith) (omega arith)
