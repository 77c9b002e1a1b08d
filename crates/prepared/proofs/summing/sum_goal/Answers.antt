use Rattle.std.proofs.Common.{◌∷◌, [], ◌++◌, sym, ◌∙◌, arith}
use Rattle.std.proofs.lemmas.List.FromFn.{map-range_with_len_more}
use Rattle.spaces.specs.TableSpaces.{table_space}
use Rattle.prepared.specs.Sums.{sum_before}
use Rattle.prepared.proofs.Sums.{sum_few, sum_next, ways_few}
use Rattle.prepared.proofs.summing.sum_goal.Goals as goal

pub alternative_count-before-requires : goal.alternative_count-before-requires
alternative_count-before-requires c =
    let t = c.args.counted.now in
    ways_few (table_space t.space.now) t.space.now.lawful t.tallies.now t.standing c.args.goal c.requires _ c.goal_list-list.ensures c.loop-alternative.alternative-index c.loop-alternative-test.true _

pub overflow_add-before : goal.overflow_add-before
overflow_add-before c =
    let t = c.args.counted.now in
    omega (
      arith,
      c.loop-alternative.invariant.1,
      sum_few (table_space t.space.now) t.space.now.lawful t.tallies.now t.standing c.args.goal c.requires _ c.goal_list-list.ensures c.loop-alternative.alternative-index
          c.loop-alternative-test.true _ c.alternative_count-before.result c.alternative_count-before.ensures,
    )

pub loop-alternative-preserved : goal.loop-alternative-preserved
loop-alternative-preserved c =
    let t = c.args.counted.now in
    let m = table_space t.space.now in
    let i = c.loop-alternative.alternative-index in (
      c.in_ok-push.ensures.items
          ∙ (λ j. c.loop-alternative.invariant.0 j ++ (c.loop-alternative.invariant.1 j ∷ []))
          ∙ sym (map-range_with_len_more (sum_before m c.args.goal) 0 i i (omega arith)),
      omega (
        arith,
        c.loop-alternative.invariant.1,
        sum_next m t.space.now.lawful t.tallies.now t.standing c.args.goal c.requires _ c.goal_list-list.ensures i c.loop-alternative-test.true _ c.alternative_count-before.result c.alternative_count-before.ensures,
      ),
    )
