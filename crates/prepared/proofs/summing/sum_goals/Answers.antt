use Rattle.std.proofs.Common.{◌≡◌, ◌∷◌, [], ◌++◌, map, vec_items, sym, ap, ◌∙◌, arith}
use Rattle.std.specs.List.{range_with_len}
use Rattle.std.proofs.lemmas.List.{map-append}
use Rattle.std.proofs.lemmas.List.FromFn.{map-range_with_len_more}
use Rattle.spaces.specs.TableSpaces.{table_space}
use Rattle.prepared.specs.Sums.{goal_sums}
use Rattle.prepared.proofs.Sums.{summed}
use Rattle.prepared.proofs.summing.sum_goals.Goals as goal

pub loop-goal-preserved : goal.loop-goal-preserved
loop-goal-preserved c =
    let goal = c.loop-goal.goal in
    ap (map vec_items) c.in_ok-push.ensures.items
    ∙ map-append _ c.loop-goal.sums.items (c.in_ok-sum_goal.field-0 ∷ [])
    ∙ (λ i. c.loop-goal.invariant i ++ (c.in_ok-sum_goal.ensures i ∷ []))
    ∙ sym (map-range_with_len_more (goal_sums (table_space c.args.counted.now.space.now)) 0 goal goal (omega arith))

pub returns : goal.returns
returns c =
    let t = c.args.counted.now.space.now in
    let n : c.loop-goal.goal ≡ t.goals = omega (arith, c.loop-goal-test.false, c.goals-goal-end.ensures, c.loop-goal.auto.goal-end) in
    summed (table_space t) t.lawful _ (c.loop-goal.invariant ∙ ap (λ k. map (goal_sums (table_space t)) (range_with_len 0 k)) n)
