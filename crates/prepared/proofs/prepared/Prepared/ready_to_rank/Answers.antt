use Rattle.std.proofs.Common.{ℕ, Ok, vec_items, sym, ap, ◌∙◌, arith}
use Rattle.numbering.specs.Refusals.{answered, largest, plans}
use Rattle.prepared.specs.Prepares.{table}
use Rattle.prepared.proofs.Ready.{rank_none, rank_short}
use Rattle.prepared.proofs.prepared.Prepared.ready_to_rank.Goals as goal

pub returns-then-work-size-clause-answer : goal.returns-then-work-size-clause-answer
returns-then-work-size-clause-answer c =
    let p = c.args.self.now in
    let both : ℕ × ℕ = (plans (table p), largest (table p)) in
    let size = ap (λ (t : ℕ × ℕ). t.1) c.count-plans.ensures.answer in
    sym (ap (λ o. answered o both) (rank_short (table p) (vec_items p.tallies) p.standing c.args.work (omega (arith, size, c.if-work-size.true))))

pub returns-clause-answer : goal.returns-clause-answer
returns-clause-answer c =
    let p = c.args.self.now in
    let both : ℕ × ℕ = (plans (table p), largest (table p)) in
    let size = ap (λ (t : ℕ × ℕ). t.1) c.count-plans.ensures.answer in
    ap Ok c.count-plans.ensures.answer ∙ sym (ap (λ o. answered o both) (rank_none (table p) (vec_items p.tallies) p.standing c.args.work (omega (arith, size, c.if-work-size.false))))
