use Rattle.std.proofs.Common.{Some, filter, sym, refl, ap, ◌∙◌, arith}
use Rattle.std.proofs.lemmas.Option.{slice_get_past}
use Rattle.spaces.specs.Orders.{sortable}
use Rattle.spaces.specs.OrdersLemmas.{kept_few, sorted_last, sorted_none, sorted_some}
use Rattle.spaces.proofs.ordered_goal.OrderedGoal.sorted.Goals as goal

pub lift-requires : goal.lift-requires
lift-requires g c =
    let below = c.args.self.now.below.now in
    kept_few (g.S.Space.meaning below) (g.met.S.Space.lawful below) c.args.self.now.goal c.args.index c.in-Ok.alternative _ refl c.in-Ok.ensures

pub returns-in-Ok : goal.returns-in-Ok
returns-in-Ok g c = ap Some c.lift.ensures ∙ sorted_some c.args.self.now.goal ((g.S.Space.meaning c.args.self.now.below.now).lists c.args.self.now.goal) c.args.index _ c.in-Ok.ensures

pub returns-in-Err : goal.returns-in-Err
returns-in-Err g c =
    ap Some c.sort.ensures
    ∙ sorted_last c.args.self.now.goal ((g.S.Space.meaning c.args.self.now.below.now).lists c.args.self.now.goal) c.args.index (sym c.if-width-index.true ∙ c.in-Err.ensures.0)

pub returns-in-Err-2 : goal.returns-in-Err-2
returns-in-Err-2 g c =
    let xs = (g.S.Space.meaning c.args.self.now.below.now).lists c.args.self.now.goal in
    let past = slice_get_past (filter sortable xs) c.args.index (omega (arith, c.in-Err.ensures.0, c.in-Err.ensures.1)) in
    sorted_none c.args.self.now.goal xs c.args.index past (λ e. c.if-width-index.false (c.in-Err.ensures.0 ∙ sym e))
