use Rattle.std.proofs.Common.{◌≡◌, ◌∷◌, length, sym, ap, ◌∙◌, subst, arith}
use Rattle.std.proofs.lemmas.List.{set-get_or}
use Rattle.numbering.specs.Dues.{Pile, due}
use Rattle.numbering.specs.Plans.{count, left_due}
use Rattle.numbering.specs.Standing.{Written}
use Rattle.numbering.proofs.Stacks.{size_some}
use Rattle.numbering.proofs.Standings as standings
use Rattle.numbering.proofs.Writes as writes
use Rattle.numbering.proofs.writing.write_plan.Given as given
use Rattle.numbering.proofs.writing.write_plan.Goals as goal
use Rattle.numbering.proofs.writing.write_plan.Goals.{After-left_count, In-Some}

pub push-requires : goal.push-requires
push-requires g c =
    let s = c.args.counted.now in
    let m = g.C.Space.meaning s in
    omega (
      arith,
      size_some m (g.met.C.Space.lawful s) m.root (omega (arith, c.requires.below)),
      c.requires.work,
      ap (λ (p : Pile). length p.dues) c.new-stack.ensures,
      ap (λ (p : Pile). p.room) c.new-stack.ensures,
    )

pub loop-len-init : goal.loop-len-init
loop-len-init g c =
    let s = c.args.counted.now in
    let m = g.C.Space.meaning s in
    let start = writes.writing_start m c.args.number c.root.result c.args.plan.now c.root.ensures ((g.met.C.Space.lawful s).root_below c.tallies-tallies.ensures.some) c.requires.below in (
      writes.writing_as (ap (λ (p : Pile). p.dues) c.push.ensures ∙ ap (λ (p : Pile). due c.root.result c.args.number ∷ p.dues) c.new-stack.ensures) start,
      omega (arith, ap (λ (p : Pile). p.room) c.push.ensures, ap (λ (p : Pile). p.room) c.new-stack.ensures, c.requires.work),
    )

pub returns-in_default : goal.returns-in_default
returns-in_default g c =
    let m = g.C.Space.meaning c.args.counted.now in
    let done = writes.writing_as c.in_default.ensures.dues c.loop-len.invariant.0 in
    subst (Written m c.args.number c.loop-len.len c.args.plan.now) (sym (set-get_or c.loop-len.plan c.loop-len.len _))
    (writes.writing_end m c.args.number c.args.plan.now c.loop-len.plan c.loop-len.len done (omega (arith, c.requires.plan, c.loop-len.auto.plan)) c.tallies-tallies.ensures.small)

pub pick-rest-requires-clause-within : goal.pick-rest-requires-clause-within
pick-rest-requires-clause-within g c = (writes.writing_as c.in-Some.ensures.dues c.loop-len.invariant.0).good.0.goal_below

pub pick-rest-requires-clause-below : goal.pick-rest-requires-clause-below
pick-rest-requires-clause-below g c = (writes.writing_as c.in-Some.ensures.dues c.loop-len.invariant.0).good.0.number_below

-- the count that was read for the left child is its count
count_read : (g : given.Over) (c : goal.After-left_count g) →
    c.left_count.result ≡ count (g.C.Space.meaning c.args.counted.now) (left_due c.pick-rest.result.0)
count_read g c =
    let s = c.args.counted.now in
    let good = (writes.writing_as c.in-Some.ensures.dues c.loop-len.invariant.0).good.0 in
    let f = c.pick-rest.ensures in
    c.left_count.ensures
    ∙ standings.look_left (g.C.Space.meaning s) (g.met.C.Space.lawful s) c.tallies-tallies.result.now c.tallies-tallies.ensures _ f.index c.pick-rest.result.0 good.goal_below f.found

pub shares-left-requires : goal.shares-left-requires
shares-left-requires g c =
    let s = c.args.counted.now in
    omega (arith, count_read g c, writes.left_some (g.C.Space.meaning s) (g.met.C.Space.lawful s) _ _ c.pick-rest.result.0 _ c.pick-rest.ensures)

pub push_children-requires : goal.push_children-requires
push_children-requires g c =
    let s = c.args.counted.now in
    let room = writes.next_room (g.C.Space.meaning s) (g.met.C.Space.lawful s) c.args.number c.args.plan.now c.loop-len.plan c.in-Some.due c.pop.new.self.dues c.loop-len.len
    (writes.writing_as c.in-Some.ensures.dues c.loop-len.invariant.0) c.pick-rest.result.0 c.pick-rest.result.1 c.pick-rest.ensures in
    omega (arith, room, c.pop.ensures.room, c.loop-len.invariant.1)

pub loop-len-preserved : goal.loop-len-preserved
loop-len-preserved g c =
    let s = c.args.counted.now in
    let pushed = writes.shared c.pick-rest.result.0 c.pick-rest.result.1 c.left_count.result _ c.shares-left.result c.pop.new.self.dues c.push_children.new.self.dues
    (ap (λ (p : Pile). p.dues) c.push_children.ensures) c.shares-left.ensures (count_read g (goal.at.loop-len-preserved g c).After-left_count) in (
      writes.writing_more (g.C.Space.meaning s) (g.met.C.Space.lawful s) c.args.number c.args.plan.now c.loop-len.plan c.in-Some.due c.pop.new.self.dues c.loop-len.len
          (writes.writing_as c.in-Some.ensures.dues c.loop-len.invariant.0) c.pick-rest.result.0 c.pick-rest.result.1 c.pick-rest.ensures c.push_children.new.self.dues
          (omega (arith, c.loop-len-test.true, c.loop-len.auto.plan)) pushed,
      omega (arith, ap (λ (p : Pile). p.room) c.push_children.ensures, c.pop.ensures.room, c.loop-len.invariant.1),
    )

pub returns : goal.returns
returns g c =
    let s = c.args.counted.now in
    let m = g.C.Space.meaning s in
    let law = g.met.C.Space.lawful s in
    let plan = c.loop-len.plan in
    let end : c.loop-len.len ≡ length plan = omega (arith, c.loop-len-test.false, c.loop-len.auto.plan, c.loop-len.auto.len-end) in
    let done = writes.writing_as (sym (writes.writing_full m law c.args.number c.args.plan.now plan _ c.loop-len.len c.loop-len.invariant.0 (omega (arith, c.requires.plan, end, c.loop-len.auto.plan)))) c.loop-len.invariant.0 in
    subst (λ n. Written m c.args.number n c.args.plan.now plan) end
    (writes.writing_end m c.args.number c.args.plan.now plan c.loop-len.len done (omega (arith, c.requires.plan, c.loop-len.auto.plan)) c.tallies-tallies.ensures.small)
