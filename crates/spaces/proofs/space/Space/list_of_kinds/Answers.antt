use Rattle.std.proofs.Common.{ap, ◌∙◌, rules}
use borrow.Author.Tests.{tests}
use Rattle.std.specs.Prelude.{filter}
use Rattle.std.proofs.lemmas.Fn.{filter_same}
use Rattle.spaces.specs.Masks.{passes}
use Rattle.spaces.proofs.space.Space.list_of_kinds.Goals as goal

pub returns : goal.returns
returns g c =
    let test = passes c.args.mask.bits in
    filter_same _ test _ (λ x b q k. search (rules, tests)) _ _ c.retain.ensures.filtered ∙ ap (filter test) c.in_ok-list.ensures
