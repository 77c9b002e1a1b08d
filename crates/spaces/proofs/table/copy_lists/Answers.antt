use Rattle.std.proofs.Common.{◌∷◌, [], ◌++◌, sym, ap, ◌∙◌, arith}
use Rattle.std.proofs.lemmas.List.{map-append}
use Rattle.std.proofs.lemmas.List.FromFn.{map-range_with_len_more}
use Rattle.spaces.specs.Tables.{held}
use Rattle.spaces.proofs.table.copy_lists.Goals as goal

pub loop-goal-preserved : goal.loop-goal-preserved
loop-goal-preserved g c =
    let lists = (g.S.Space.meaning c.args.space.now).lists in
    let goal = c.loop-goal.goal in
    ap held c.in_ok-push.ensures.items
    ∙ map-append _ c.loop-goal.lists.items (c.shrink_to_fit.new.self ∷ [])
    ∙ (λ i. c.loop-goal.invariant i ++ ((c.shrink_to_fit.ensures.items ∙ c.in_ok-list.ensures) i ∷ []))
    ∙ sym (map-range_with_len_more lists 0 goal goal (omega arith))
