use Rattle.std.proofs.Common.{◌<◌, length, refl, arith}
use Rattle.numbering.proofs.Fills.{fill_step}
use Rattle.numbering.proofs.counting.fill.Goals as goal

pub loop-goal-preserved : goal.loop-goal-preserved
loop-goal-preserved g c =
    let s = c.args.space.now in
    let within : c.loop-goal.goal < length c.args.tallies.now = omega arith in
    (fill_step (g.S.Space.meaning s) (g.met.S.Space.lawful s) c.loop-goal.goal c.from.result c.args.tallies.now c.loop-goal.tallies c.goal_tally.result _ within c.from.ensures c.loop-goal.invariant refl c.goal_tally.ensures).1
