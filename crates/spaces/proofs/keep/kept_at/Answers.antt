use Rattle.std.proofs.Common.{sym, ◌∙◌, rules}
use borrow.Author.Tests.{tests}
use Rattle.std.proofs.lemmas.Iterator.Consumers.{YieldsList-at, YieldsList-from_filter, YieldsList-from_first, nth_from_yields_List}
use Rattle.std.proofs.lemmas.Iterator.Adapters.{option_map_id}
use Rattle.spaces.specs.Spaces.{ahead}
use Rattle.spaces.proofs.keep.kept_at.Goals as goal

pub returns : goal.returns
returns g c =
    sym (option_map_id c.nth.result)
    ∙ nth_from_yields_List
    c.nth.result
    c.nth.new.self
    c.args.index
    c.nth.ensures.ran
    (YieldsList-from_filter _ (g.T.Test.picks c.args.test.now) (YieldsList-at c.filter.ensures.source (YieldsList-from_first (λ x. x) (ahead g.S.Space.meaning) _ c.alternatives.ensures)) c.filter.ensures.closure (λ x b q k. search (rules, tests)))
