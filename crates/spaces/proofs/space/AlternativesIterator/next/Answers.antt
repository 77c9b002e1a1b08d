use Rattle.std.proofs.Common.{◌<◌, length, sym, ap, ◌∙◌, arith, rules}
use Rattle.spaces.specs.Places.{drop_none, drop_some, some_below}
use Rattle.spaces.proofs.space.AlternativesIterator.next.Goals as goal

pub returns-in_default-clause-steps : goal.returns-in_default-clause-steps
returns-in_default-clause-steps g c =
    let it = c.args.self.now in
    let none = drop_none ((g.S.Space.meaning it.space.now).lists it.goal) it.index (sym c.alternative.ensures ∙ c.in_default.is) in
    (none, none)

pub overflow_add-self : goal.overflow_add-self
overflow_add-self g c =
    let it = c.args.self.now in
    let xs = (g.S.Space.meaning it.space.now).lists it.goal in
    let w : it.index < length xs = some_below xs it.index _ (sym c.alternative.ensures ∙ c.in-Some.is) in
    omega (arith, (g.met.S.Space.lawful it.space.now).narrow it.goal)

pub returns-clause-steps : goal.returns-clause-steps
returns-clause-steps g c =
    let it = c.args.self.now in
    drop_some ((g.S.Space.meaning it.space.now).lists it.goal) it.index _ (sym c.alternative.ensures ∙ c.in-Some.is)

pub returns-clause-goes : goal.returns-clause-goes
returns-clause-goes g c =
    let it = c.args.self.now in
    let xs = (g.S.Space.meaning it.space.now).lists it.goal in
    let fewer = ap length (drop_some xs it.index _ (sym c.alternative.ensures ∙ c.in-Some.is)) in
    record { on = λ _. (search rules, search rules, omega (arith, fewer)); keeps = search rules; rests = search rules }
