use Rattle.std.proofs.Common.{◌+◌, true, cond, vec_items, sym, ap, ◌∙◌, subst, arith}
use Rattle.texts.specs.Passing.{Missed, Passed, from_top}
use Rattle.texts.proofs.Passes.{one_due, opened, two_due, unopened}
use Rattle.texts.proofs.punctuation.pass_marks.Goals as goal

pub returns-then-not-eat-clause-marks : goal.returns-then-not-eat-clause-marks
returns-then-not-eat-clause-marks c =
    let start = c.args.cursor.now in
    let s = from_top (vec_items c.args.marks.now) in
    subst (Missed c.args.arity s start.text.now start.at) (sym (c.eat.ensures.at ∙ ap (λ b. cond b (start.at + 1) start.at) c.if-not-eat.true))
    (unopened c.args.arity s start.text.now start.at (omega (arith, c.if-arity-eq0.false)) start.within (sym c.eat.ensures.value ∙ c.if-not-eat.true))

pub returns-in_ok-push-2-clause-marks : goal.returns-in_ok-push-2-clause-marks
returns-in_ok-push-2-clause-marks c =
    let start = c.args.cursor.now in
    let v = vec_items c.args.marks.now in
    subst (λ p. Passed c.args.arity (from_top v) (from_top (vec_items c.push-then-arity-eq2.new.self)) start.text.now start.at p true)
    (sym (c.eat.ensures.at ∙ ap (λ b. cond b (start.at + 1) start.at) c.if-not-eat.false))
    (opened c.args.arity (from_top v) (from_top (vec_items c.push-then-arity-eq2.new.self)) start.text.now start.at (omega (arith, c.if-arity-eq0.false)) (sym c.eat.ensures.value ∙ c.if-not-eat.false)
    (two_due c.args.arity v (vec_items c.push.new.self) (vec_items c.push-then-arity-eq2.new.self) c.if-arity-eq2.true c.in_ok-push.ensures.items c.in_ok-push-2.ensures.items))

pub returns-else-arity-eq2-clause-marks : goal.returns-else-arity-eq2-clause-marks
returns-else-arity-eq2-clause-marks c =
    let start = c.args.cursor.now in
    let v = vec_items c.args.marks.now in
    subst (λ p. Passed c.args.arity (from_top v) (from_top (vec_items c.push.new.self)) start.text.now start.at p true)
    (sym (c.eat.ensures.at ∙ ap (λ b. cond b (start.at + 1) start.at) c.if-not-eat.false))
    (opened c.args.arity (from_top v) (from_top (vec_items c.push.new.self)) start.text.now start.at (omega (arith, c.if-arity-eq0.false)) (sym c.eat.ensures.value ∙ c.if-not-eat.false)
    (one_due c.args.arity v (vec_items c.push.new.self) (omega (arith, c.requires, c.if-arity-eq0.false, c.if-arity-eq2.false)) c.in_ok-push.ensures.items))
