use Rattle.std.proofs.Common.{arith, length-set}
use Rattle.numbering.proofs.Stacks.{push_below, push_is}
use Rattle.numbering.proofs.stack.Stack.push.Goals as goal

pub bounds-self-inside-self-inside : goal.bounds-self-inside-self-inside
bounds-self-inside-self-inside c = push_below _ _ c.args.due _ c.self.view_is c.requires

pub invariant_of-self : goal.invariant_of-self
invariant_of-self c =
    let w = c.self.inside.work.now in
    omega (arith, push_below w c.self.inside.depth c.args.due _ c.self.view_is c.requires, length-set w c.self.inside.depth c.args.due)

pub returns : goal.returns
returns c = push_is _ _ c.args.due _ c.self.view_is c.requires
