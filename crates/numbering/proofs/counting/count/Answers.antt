use Rattle.std.proofs.Common.{sym, ◌∙◌, arith}
use Rattle.numbering.proofs.Checks as checks
use Rattle.numbering.proofs.counting.count.Given as given
use Rattle.numbering.proofs.counting.count.Goals as goal
use Rattle.numbering.proofs.counting.count.Goals.{After-fill}

full : (g : given.Over) (c : goal.After-fill g) → checks.IsFilled (g.S.Space.meaning c.args.space.now) c.from-goals.result c.args.tallies.now c.fill.new.tallies
full g c =
    record { goals = c.from-goals.ensures ∙ c.goals.ensures; some = c.if-goals-eq0.false; room = omega (arith, c.if-tallies-goals.false); is = c.fill.ensures }

pub returns-then-too_many-clause-answer : goal.returns-then-too_many-clause-answer
returns-then-too_many-clause-answer g c =
    let s = c.args.space.now in
    checks.answer_many (g.S.Space.meaning s) (g.met.S.Space.lawful s) _ _ _ (full g (goal.at.returns-then-too_many-clause-answer g c).After-fill) (sym c.too_many.ensures ∙ c.if-too_many.true)

pub returns-then-root-gt-MOST_NODES-clause-answer : goal.returns-then-root-gt-MOST_NODES-clause-answer
returns-then-root-gt-MOST_NODES-clause-answer g c =
    let s = c.args.space.now in
    checks.answer_large (g.S.Space.meaning s) (g.met.S.Space.lawful s) _ _ _ (full g (goal.at.returns-then-root-gt-MOST_NODES-clause-answer g c).After-fill)
    (sym c.too_many.ensures ∙ c.if-too_many.false) c.from.result (c.from.ensures ∙ c.root.ensures) c.if-root-gt-MOST_NODES.true

pub returns-clause-answer : goal.returns-clause-answer
returns-clause-answer g c =
    let s = c.args.space.now in
    checks.answer_ok (g.S.Space.meaning s) (g.met.S.Space.lawful s) _ _ _ (full g (goal.at.returns-clause-answer g c).After-fill)
    (sym c.too_many.ensures ∙ c.if-too_many.false) c.from.result (c.from.ensures ∙ c.root.ensures) c.if-root-gt-MOST_NODES.false

pub returns-clause-census : goal.returns-clause-census
returns-clause-census g c =
    let s = c.args.space.now in
    checks.census_is (g.S.Space.meaning s) (g.met.S.Space.lawful s) _ _ _ (full g (goal.at.returns-clause-census g c).After-fill)
    (sym c.too_many.ensures ∙ c.if-too_many.false) c.from.result (c.from.ensures ∙ c.root.ensures) c.if-root-gt-MOST_NODES.false
