use Rattle.std.proofs.Common.{sym, subst}
use Rattle.std.specs.List.{AllByRecursion}
use Rattle.spaces.specs.Orders.{Small}
use Rattle.spaces.specs.OrdersLemmas.{all_few}
use Rattle.spaces.proofs.ordered_goal.OrderedGoal.any_list.Goals as goal

pub lift_all-requires : goal.lift_all-requires
lift_all-requires g c =
    let below = c.args.self.now.below.now in
    subst (AllByRecursion Small) (sym c.in_ok-list.ensures) (all_few (g.S.Space.meaning below) (g.met.S.Space.lawful below) c.args.self.now.goal)
