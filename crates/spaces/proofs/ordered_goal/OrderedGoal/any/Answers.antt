use Rattle.std.proofs.Common.{Some, sym, ap, ◌∙◌}
use Rattle.spaces.specs.OrdersLemmas.{any_none, any_some, children_few}
use Rattle.spaces.proofs.ordered_goal.OrderedGoal.any.Goals as goal

pub returns-in_err-alternative : goal.returns-in_err-alternative
returns-in_err-alternative g c =
    c.from_residual.ensures ∙ any_none c.args.self.now.goal ((g.S.Space.meaning c.args.self.now.below.now).lists c.args.self.now.goal) c.args.index (sym c.alternative.ensures ∙ c.in_err-alternative.was)

pub lift-requires : goal.lift-requires
lift-requires g c =
    let below = c.args.self.now.below.now in
    children_few (g.S.Space.meaning below) (g.met.S.Space.lawful below) c.args.self.now.goal c.args.index c.in_ok-alternative.alternative c.alternative.result c.alternative.ensures c.in_ok-alternative.was

pub returns : goal.returns
returns g c = ap Some c.lift.ensures ∙ any_some c.args.self.now.goal ((g.S.Space.meaning c.args.self.now.below.now).lists c.args.self.now.goal) c.args.index _ (sym c.alternative.ensures ∙ c.in_ok-alternative.was)
