use Rattle.std.proofs.Common.{◌+◌, false, length, sym, ap, ◌∙◌, arith}
use lib.ListN.{length-map}
use Rattle.spaces.specs.Lists.{kept_shorter}
use Rattle.spaces.specs.Orders.{in_order, lifted, sortable}
use Rattle.spaces.specs.OrdersLemmas.{sorted_length}
use Rattle.spaces.proofs.ordered_goal.OrderedGoal.width.Goals as goal

pub returns-in-Any : goal.returns-in-Any
returns-in-Any g c =
    let o = c.args.self.now in
    let m = g.S.Space.meaning o.below.now in
    c.width.ensures ∙ sym (length-map (m.lists o.goal) (lifted false)) ∙ ap (λ order. length (in_order order o.goal m)) (sym c.in-Any.is)

pub overflow_add-result : goal.overflow_add-result
overflow_add-result g c =
    let o = c.args.self.now in
    omega (arith, c.kept_width.ensures, kept_shorter sortable ((g.S.Space.meaning o.below.now).lists o.goal), (g.met.S.Space.lawful o.below.now).narrow o.goal)

pub returns-in-Sorted : goal.returns-in-Sorted
returns-in-Sorted g c =
    let o = c.args.self.now in
    let m = g.S.Space.meaning o.below.now in
    ap (λ n. n + 1) c.kept_width.ensures ∙ sorted_length o.goal (m.lists o.goal) ∙ ap (λ order. length (in_order order o.goal m)) (sym c.in-Sorted.is)
