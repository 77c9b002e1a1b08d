use Rattle.std.proofs.Common.{leb, sym, ◌∙◌, rules, tests}
use Rattle.std.proofs.lemmas.Iterator.{YieldsList-from_slice}
use Rattle.std.proofs.lemmas.Iterator.Search.{any_from_yields_List}
use Rattle.texts.proofs.Reports.{any_past_list}
use Rattle.texts.proofs.report.any_past_limit.Goals as goal

pub returns : goal.returns
returns c =
    any_from_yields_List (leb c.args.limit) _ _ c.any.result c.any.ensures.ran (YieldsList-from_slice c.args.numbers.now cc) (λ x b q k. search (rules, tests))
    ∙ sym (any_past_list c.args.limit c.args.numbers.now)
