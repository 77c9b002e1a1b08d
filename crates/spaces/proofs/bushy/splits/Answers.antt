use Rattle.std.proofs.Common.{◌-◌, arith}
use Rattle.std.proofs.lemmas.Nat.{and_le_l}
use Rattle.spaces.proofs.Parts.{splitting_end, splitting_more, splitting_start}
use Rattle.spaces.proofs.bushy.splits.Goals as goal

pub loop-right-init : goal.loop-right-init
loop-right-init c = rw c.in_ok-list.ensures.items (splitting_start c.args.join c.args.set c.requires (omega arith))

pub loop-right-smaller : goal.loop-right-smaller
loop-right-smaller c = omega (arith, and_le_l (c.loop-right.right - 1) c.args.set, c.loop-right-test.true)

pub loop-right-preserved : goal.loop-right-preserved
loop-right-preserved c = splitting_more c.args.join c.args.set c.requires (omega arith) _ _ c.loop-right.right c.loop-right.invariant c.loop-right-test.true c.in_ok-push.ensures.items

pub returns : goal.returns
returns c = splitting_end c.args.join c.args.set c.requires (omega arith) _ c.loop-right.right c.loop-right.invariant c.loop-right-test.false
