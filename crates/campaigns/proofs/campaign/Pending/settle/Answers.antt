use Rattle.std.proofs.Common.{◌≡◌, ◌+◌, ◌%◌, sym, ap, ◌∙◌, arith}
use Rattle.campaigns.specs.Counting.{settled}
use Rattle.campaigns.specs.Walks.{walk}
use Rattle.campaigns.proofs.Walks.{onward}
use Rattle.campaigns.proofs.campaign.Pending.settle.Goals as goal

pub invariant_of-result-clause-upcoming : goal.invariant_of-result-clause-upcoming
invariant_of-result-clause-upcoming c =
    let s = c.args.self in
    let k = settled s.counts in
    let drawn : c.args.counts.drawn ≡ k + 1 = omega (arith, c.requires.drawn, s.settled) in
    c.onward.ensures ∙ ap (λ x. (x + s.step) % s.n) s.chosen ∙ sym (onward s.n s.start s.step k) ∙ ap (walk s.n s.start s.step) (sym drawn)
