use Rattle.std.proofs.Common.{arith, rules}
use Rattle.std.proofs.lemmas.Grind.{common_steps}
use Rattle.texts.specs.Listed.{text}
use Rattle.texts.proofs.Spells.{plan_spelled, too_short, written}
use Rattle.texts.proofs.text.plan_text.Goals as goal

pub returns-then-len-text : goal.returns-then-len-text
returns-then-len-text c =
    let list = c.args.nodes.now in
    let old = c.args.text.now in
    let said = too_short (text list) old (omega arith) in
    record { list = said; plan = plan_spelled list _ old old said }

pub returns-clause-list : goal.returns-clause-list
returns-clause-list c =
    written (text c.args.nodes.now) c.args.text.now _ c.text_length-len.result c.text_length-len.ensures.same (omega arith) (grind (arith, common_steps))

pub returns-clause-plan : goal.returns-clause-plan
returns-clause-plan c =
    plan_spelled c.args.nodes.now _ c.args.text.now _ (written (text c.args.nodes.now) c.args.text.now _ c.text_length-len.result c.text_length-len.ensures.same (omega arith) (search rules))
