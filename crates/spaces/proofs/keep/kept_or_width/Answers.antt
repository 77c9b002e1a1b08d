use Rattle.std.proofs.Common.{MatchResult, filter, length, sym, ap, ◌∙◌, ◌≡◌, ◌≤◌, Some, subst}
use Rattle.std.specs.Option.{ok_or}
use Rattle.std.specs.List.{slice_get}
use Rattle.spaces.specs.Places.{turn_at}
use Rattle.spaces.proofs.Keeping.{kept_here}
use Rattle.spaces.proofs.keep.kept_or_width.Goals as goal

pub returns-then-passed-index : goal.returns-then-passed-index
returns-then-passed-index g c =
    let xs = (g.S.Space.meaning c.args.below.now).lists c.args.goal in
    let picks = g.T.Test.picks c.args.test.now in
    let l = c.loop-alternative in
    let x = c.in-Some.alternative in
    let is = c.alternative.ensures ∙ ap (slice_get xs) l.invariant.3 ∙ turn_at xs _ _ _ x l.invariant.0 c.in-Some.ensures.steps in
    let kept = ap (slice_get (filter picks xs)) (sym c.if-passed-index.true ∙ l.invariant.1)
    ∙ kept_here picks x xs _ _ _ l.invariant.0 c.in-Some.ensures.steps (sym c.passes.ensures ∙ c.if-passes.true) in
    subst (λ r. MatchResult r (λ alternative. slice_get (filter picks xs) c.args.index ≡ Some alternative) (λ width. (width ≡ length (filter picks xs)) × (width ≤ c.args.index)))
    (sym (c.ok_or.ensures.value ∙ ap (λ o. ok_or o l.passed) is)) kept
