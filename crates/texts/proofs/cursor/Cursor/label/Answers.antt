use Rattle.std.proofs.Common.{◌≡◌, ◌+◌, cond, Some, None, sym, ap, ◌∙◌}
use Rattle.texts.specs.Parts.{byte_at}
use Rattle.texts.proofs.Labels.{label_here, no_label_end, no_label_goal, no_label_letter, no_label_sign, no_label_tag, number_moved}
use Rattle.texts.proofs.cursor.Cursor.label.Goals as goal

pub returns-in_err-byte-clause-label : goal.returns-in_err-byte-clause-label
returns-in_err-byte-clause-label c = rw c.from_residual.ensures (no_label_end c.args.self.now.text.now c.args.self.now.at c.in_err-byte.ensures.byte)

pub returns-in_err-kind-clause-label : goal.returns-in_err-kind-clause-label
returns-in_err-kind-clause-label c =
    rw c.from_residual-in_err-kind.ensures (no_label_letter c.args.self.now.text.now c.args.self.now.at _ c.in_ok-byte.field-0 c.in_ok-byte.ensures.byte (sym c.in_err-kind.ensures))

pub returns-in_err-tag-clause-label : goal.returns-in_err-tag-clause-label
returns-in_err-tag-clause-label c =
    let first = c.in_ok-byte.ensures in
    rw c.from_residual-in_err-tag.ensures (no_label_tag c.args.self.now.text.now c.args.self.now.at (number_moved _ _ _ _ None first.text first.at c.in_err-tag.ensures.number))

pub returns-then-not-eat-clause-label : goal.returns-then-not-eat-clause-label
returns-then-not-eat-clause-label c =
    let first = c.in_ok-byte.ensures in
    let s = c.number.new.self.at in
    let text = c.number.ensures.text ∙ first.text in
    no_label_sign c.args.self.now.text.now c.args.self.now.at c.in_ok-tag.tag s (number_moved _ _ _ _ (Some (c.in_ok-tag.tag, s)) first.text first.at c.in_ok-tag.ensures.number)
    (ap (λ b. byte_at b s 64) (sym text) ∙ sym c.eat.ensures.value ∙ c.if-not-eat.true)

pub returns-in_err-goal-clause-label : goal.returns-in_err-goal-clause-label
returns-in_err-goal-clause-label c =
    let first = c.in_ok-byte.ensures in
    let s = c.number.new.self.at in
    let text = c.eat.ensures.text ∙ c.number.ensures.text ∙ first.text in
    let past : c.eat.new.self.at ≡ s + 1 = c.eat.ensures.at ∙ ap (λ b. cond b (s + 1) s) c.if-not-eat.false in
    rw c.from_residual-in_err-goal.ensures (no_label_goal c.args.self.now.text.now c.args.self.now.at c.in_ok-tag.tag s (number_moved _ _ _ _ (Some (c.in_ok-tag.tag, s)) first.text first.at c.in_ok-tag.ensures.number)
    (number_moved _ _ _ _ None text past c.in_err-goal.ensures.number))

pub returns-clause-label : goal.returns-clause-label
returns-clause-label c =
    let bytes = c.args.self.now.text.now in
    let i = c.args.self.now.at in
    let first = c.in_ok-byte.ensures in
    let s = c.number.new.self.at in
    let text = c.eat.ensures.text ∙ c.number.ensures.text ∙ first.text in
    let past : c.eat.new.self.at ≡ s + 1 = c.eat.ensures.at ∙ ap (λ b. cond b (s + 1) s) c.if-not-eat.false in
    label_here bytes i c.in_ok-byte.field-0 c.in_ok-kind.kind c.in_ok-tag.tag s c.in_ok-goal.goal _ (rw first.at at first.byte) (sym c.in_ok-kind.ensures)
    (number_moved _ _ _ _ (Some (c.in_ok-tag.tag, s)) first.text first.at c.in_ok-tag.ensures.number) (ap (λ b. byte_at b s 64) (sym (c.number.ensures.text ∙ first.text)) ∙ sym c.eat.ensures.value ∙ c.if-not-eat.false)
    (number_moved _ _ _ _ (Some (c.in_ok-goal.goal, c.number-2.new.self.at)) text past c.in_ok-goal.ensures.number)
