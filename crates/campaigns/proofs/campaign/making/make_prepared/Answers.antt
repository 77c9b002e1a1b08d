use Rattle.std.proofs.Common.{ℕ, Ok, vec_items, sym, ap, ◌∙◌}
use Rattle.numbering.specs.Refusals.{answered, largest, plans}
use Rattle.prepared.specs.Prepares.{table}
use Rattle.prepared.proofs.Held.{up_of}
use Rattle.prepared.proofs.Ready.{counted}
use Rattle.campaigns.proofs.Begun.{begun_made}
use Rattle.campaigns.proofs.Shared.{step_rule}
use Rattle.campaigns.proofs.campaign.making.make_prepared.Goals as goal

pub returns : goal.returns
returns c =
    let a = c.args in
    let p = a.space.now in
    let m = table p in
    let both : ℕ × ℕ = (plans m, largest m) in
    let quiet = counted m (vec_items p.tallies) (up_of p) in
    let told = ap Ok c.count-plans.ensures.answer ∙ sym (ap (λ o. answered o both) quiet) in
    record {
      answer = begun_made m m.goals a.start a.step a.baseline c.count-plans.result.0 c.count-plans.result.1 c.begin.result told c.begin.ensures;
      counted = quiet;
      steps = step_rule;
    }
