use Rattle.std.proofs.Common.{length, ap, arith}
use Rattle.spaces.specs.Places.{all_passed, went}
use Rattle.numbering.specs.Plans.{all_ways, count}
use Rattle.numbering.proofs.Counts.{count_goal}
use Rattle.numbering.proofs.Turns.{Turn, turn}
use Rattle.numbering.proofs.counted.Counted.pick.Given as given
use Rattle.numbering.proofs.counted.Counted.pick.Goals as goal
use Rattle.numbering.proofs.counted.Counted.pick.Goals.{In-Some}

turn_at : (g : given.Over) (c : goal.In-Some g) → Turn (g.Self.Space.meaning c.args.self.now) c.tallies-tallies.result.now c.args.goal c.loop-alternative.yielded c.in-Some.alternative
turn_at g c =
    let s = c.args.self.now in
    turn (g.Self.Space.meaning s) (g.met.Self.Space.lawful s) _ c.args.goal _ _ _ _ c.tallies-tallies.ensures c.requires.within c.loop-alternative.invariant.0 c.in-Some.ensures.steps

pub alternative_count-count-requires : goal.alternative_count-count-requires
alternative_count-count-requires g c = (turn_at g (goal.at.alternative_count-count-requires g c).In-Some).few

pub returns-then-rest-count : goal.returns-then-rest-count
returns-then-rest-count g c =
    let t = turn_at g (goal.at.returns-then-rest-count g c).In-Some in
    record {
      index = length c.loop-alternative.yielded;
      found = t.found;
      within = omega (arith, c.alternative_count-count.ensures, t.read, c.if-rest-count.true);
      sum = omega (arith, t.before, c.loop-alternative.invariant.1);
    }

pub loop-alternative-preserved : goal.loop-alternative-preserved
loop-alternative-preserved g c =
    let t = turn_at g (goal.at.loop-alternative-preserved g c).In-Some in (
      went _ _ _ _ _ c.loop-alternative.invariant.0 c.in-Some.ensures.steps,
      omega (arith, c.loop-alternative.invariant.1, t.more, c.alternative_count-count.ensures, t.read, c.if-rest-count.false),
    )

pub unreachable-requires : goal.unreachable-requires
unreachable-requires g c =
    let s = c.args.self.now in
    let m = g.Self.Space.meaning s in
    omega (
      arith,
      ap (all_ways (count m)) (all_passed (m.lists c.args.goal) _ _ c.loop-alternative.invariant.0 c.in-None.ensures.steps.0),
      count_goal m (g.met.Self.Space.lawful s) c.args.goal,
      c.requires.below,
      c.loop-alternative.invariant.1,
    )
