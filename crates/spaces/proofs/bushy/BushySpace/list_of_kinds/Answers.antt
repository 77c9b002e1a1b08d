use Rattle.std.proofs.Common.{◌≡◌, IfOk, sym, ap, ◌∙◌, subst}
use Rattle.spaces.specs.Masks.{holds}
use Rattle.spaces.proofs.OneKind.{kept_all, kept_none}
use Rattle.spaces.proofs.bushy.BushySpace.list_of_kinds.Goals as goal

pub returns-then-not-has : goal.returns-then-not-has
returns-then-not-has c =
    let s = c.args.self.now in
    c.new.ensures.items ∙ sym (kept_none s.relations s.join c.args.goal c.args.mask.bits (sym (ap (holds c.args.mask.bits) c.kind_at.ensures) ∙ (sym c.has.ensures ∙ c.if-not-has.true)))

pub returns : goal.returns
returns c =
    let s = c.args.self.now in
    subst (λ xs. IfOk c.list.result (λ l. l.items ≡ xs)) (sym (kept_all s.relations s.join c.args.goal c.args.mask.bits (sym (ap (holds c.args.mask.bits) c.kind_at.ensures) ∙ (sym c.has.ensures ∙ c.if-not-has.false))))
    c.list.ensures
