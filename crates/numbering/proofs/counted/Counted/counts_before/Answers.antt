use Rattle.std.proofs.Common.{rules, ◌≡◌, ◌≢◌, length, refl, ap, ◌∙◌, subst, arith}
use Rattle.std.specs.List.{slice_get}
use Rattle.spaces.specs.declared.space.Alternative.{Alternative}
use Rattle.spaces.specs.Places.{all_nth, all_passed, went}
use Rattle.numbering.specs.Standing.{Before}
use Rattle.numbering.proofs.Standings.{before_told}
use Rattle.numbering.proofs.Turns.{Turn, all_push, turn}
use Rattle.numbering.proofs.counted.Counted.counts_before.Given as given
use Rattle.numbering.proofs.counted.Counted.counts_before.Goals as goal
use Rattle.numbering.proofs.counted.Counted.counts_before.Goals.{In-Some}

turn_at : (g : given.Over) (c : goal.In-Some g) →
    Turn (g.Self.Space.meaning c.args.self.now) c.tallies-tallies.result.now c.args.node.goal c.loop-alternative.yielded c.in-Some.alternative
turn_at g c =
    let s = c.args.self.now in
    turn (g.Self.Space.meaning s) (g.met.Self.Space.lawful s) _ c.args.node.goal _ _ _ _ c.tallies-tallies.ensures c.requires c.loop-alternative.invariant.0 c.in-Some.ensures.steps

pub alternative_count-count-requires : goal.alternative_count-count-requires
alternative_count-count-requires g c = (turn_at g (goal.at.alternative_count-count-requires g c).In-Some).few

pub returns-then-eq : goal.returns-then-eq
returns-then-eq g c =
    let t = turn_at g (goal.at.returns-then-eq g c).In-Some in
    let is : c.in-Some.alternative ≡ c.args.node.alternative = search rules in
    subst (λ (a : Alternative). Before (g.Self.Space.meaning c.args.self.now) c.args.node.goal a c.then_some.result) is
    (before_told _ c.args.node.goal (length c.loop-alternative.yielded) c.alternative_count-count.result c.loop-alternative.before c.in-Some.alternative c.then_some.result
    t.found (c.alternative_count-count.ensures ∙ t.read) (omega (arith, t.before, c.loop-alternative.invariant.1)) c.then_some.ensures)

pub overflow_add-before : goal.overflow_add-before
overflow_add-before g c =
    let t = turn_at g (goal.at.overflow_add-before g c).In-Some in
    omega (arith, c.alternative_count-count.ensures, t.read, c.loop-alternative.invariant.1, t.below)

pub loop-alternative-preserved : goal.loop-alternative-preserved
loop-alternative-preserved g c =
    let t = turn_at g (goal.at.loop-alternative-preserved g c).In-Some in
    let other : c.in-Some.alternative ≢ c.args.node.alternative = search rules in (
      went _ _ _ _ _ c.loop-alternative.invariant.0 c.in-Some.ensures.steps,
      omega (arith, c.loop-alternative.invariant.1, t.more, c.alternative_count-count.ensures, t.read),
      all_push _ c.loop-alternative.yielded c.in-Some.alternative c.loop-alternative.invariant.2 other,
    )

pub returns : goal.returns
returns g c live =
    let xs = (g.Self.Space.meaning c.args.self.now).lists c.args.node.goal in
    let all = all_passed xs _ _ c.loop-alternative.invariant.0 c.in-None.ensures.steps.0 in
    all_nth _ c.loop-alternative.yielded live.index c.args.node.alternative c.loop-alternative.invariant.2 (ap (λ ys. slice_get ys live.index) all ∙ live.found) refl
