use Rattle.std.proofs.Common.{rules, ap, ◌∙◌}
use Rattle.spaces.specs.contracts.space.AlternativePartialEq.TheImpl.{ghosts}
use Rattle.memos.specs.Rules.{among}
use Rattle.memos.proofs.Storing.{contained}
use Rattle.memos.proofs.lists.Lists.repeated.Goals as goal

pub returns : goal.returns
returns c =
    let a = c.args.entry.alternative in
    contained (λ x. ghosts.eq x a) _ a _ c.contains.ensures.value (λ x. search rules) ∙ ap (λ xs. among xs a) c.goal_list.ensures
