use Rattle.std.proofs.Common.{◌≡◌, ◌∷◌, ◌++◌, [], map, true, vec_items, filter, sym, ap, ◌∙◌, subst, rules}
use borrow.Author.Tests.{tests}
use Rattle.std.specs.List.{AllByRecursion}
use Rattle.std.proofs.ByRecursion.{all_kept_by}
use Rattle.std.proofs.lemmas.Fn.{filter_same}
use Rattle.spaces.specs.Orders.{Small, lifted, sortable}
use Rattle.spaces.specs.OrdersLemmas.{all_few}
use Rattle.spaces.proofs.ordered_goal.OrderedGoal.sorted_list.Given as given
use Rattle.spaces.proofs.ordered_goal.OrderedGoal.sorted_list.Goals as goal
use Rattle.spaces.proofs.ordered_goal.OrderedGoal.sorted_list.Goals.{After-retain}

-- what the list keeps
kept : (g : given.Over) (c : goal.After-retain g) → vec_items c.retain.new.self ≡ filter sortable ((g.S.Space.meaning c.args.self.now.below.now).lists c.args.self.now.goal)
kept g c = filter_same _ sortable _ (λ x b q k. search (rules, tests)) _ _ c.retain.ensures.filtered ∙ ap (filter sortable) c.in_ok-list.ensures

pub lift_all-requires : goal.lift_all-requires
lift_all-requires g c =
    let below = c.args.self.now.below.now in
    let few = all_kept_by sortable Small _ (all_few (g.S.Space.meaning below) (g.met.S.Space.lawful below) c.args.self.now.goal) in
    subst (AllByRecursion Small) (sym (kept g (goal.at.lift_all-requires g c).After-retain)) few

pub returns : goal.returns
returns g c =
    c.in_ok-push.ensures.items
    ∙ (λ i. (c.lift_all.ensures ∙ ap (map (lifted true)) (kept g (goal.at.returns g c).After-retain)) i ++ (c.sort.ensures i ∷ []))
