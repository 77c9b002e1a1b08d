use Rattle.campaigns.proofs.Shared.{coprime_exactly, coprime_tried}
use Rattle.campaigns.proofs.divisors.coprime.Goals as goal

pub returns : goal.returns
returns c =
    let d = c.greatest_common_divisor in
    record {
      exactly = coprime_exactly c.args.a c.args.b d.result d.ensures.left d.ensures.right d.ensures.greatest;
      tried = coprime_tried c.args.a c.args.b d.result d.ensures.left d.ensures.right d.ensures.greatest;
    }
