use Rattle.std.proofs.Common.{◌≡◌, ◌*◌, ◌≤◌, ◌∷◌, length, get_or, sym, ap, ◌∙◌, subst, arith}
use Rattle.std.proofs.lemmas.Option.{slice_get-get_or}
use Rattle.spaces.specs.declared.kind.Kind.TheVariants.{Scan}
use Rattle.numbering.specs.declared.node.Node.{Node}
use Rattle.numbering.specs.declared.refusal.Refusal.TheVariants.{ListEnds, NoLiveAlternative, NodesFollow, OtherGoal}
use Rattle.numbering.specs.Beginnings.{Misfit}
use Rattle.numbering.specs.Dues.{Pile, popped}
use Rattle.numbering.specs.Plans.{count, left_due}
use Rattle.numbering.specs.Refusals.{plans}
use Rattle.numbering.specs.Tallies.{most_plans}
use Rattle.numbering.proofs.Misfits as misfits
use Rattle.numbering.proofs.Progress as progress
use Rattle.numbering.proofs.Standings as standings
use Rattle.numbering.proofs.reading.number_of.Given as given
use Rattle.numbering.proofs.reading.number_of.Goals as goal
use Rattle.numbering.proofs.reading.number_of.Goals.{After-left_count-left, In-Some-counts_before}

-- what a place past the list's end would read as
abbrev blank : Node
blank = record { goal = 0; alternative = record { kind = Scan; tag = 0; left = 0; right = 0 } }

pub loop-place-init : goal.loop-place-init
loop-place-init g c =
    let s = c.args.counted.now in
    let m = g.C.Space.meaning s in (
      subst (λ (p : Pile). progress.Reading m c.args.nodes.now 0 (record { goal = c.root.result; number = 1 } ∷ p.dues) 0) (sym c.new-stack.ensures)
          (progress.reading_start m (g.met.C.Space.lawful s) c.args.nodes.now c.root.result c.root.ensures c.tallies-tallies.ensures.some),
      omega (arith, ap (λ (p : Pile). p.room) c.new-stack.ensures, c.requires),
    )

pub returns-in_default : goal.returns-in_default
returns-in_default g c =
    let s = c.args.counted.now in
    let m = g.C.Space.meaning s in
    let law = g.met.C.Space.lawful s in
    let list = c.args.nodes.now in
    let p = c.loop-place.place in
    misfits.judged_misfit m law list (NodesFollow p)
    (misfits.nodes_follow_at m law list p c.loop-place.number (get_or list p blank)
    (progress.none_due m list p _ _ _ c.loop-place.invariant.0 c.in_default.is)
    (slice_get-get_or list p blank c.loop-place-test.true))

pub returns-then-node-due : goal.returns-then-node-due
returns-then-node-due g c =
    let s = c.args.counted.now in
    let m = g.C.Space.meaning s in
    let law = g.met.C.Space.lawful s in
    let list = c.args.nodes.now in
    let p = c.loop-place.place in
    misfits.judged_misfit m law list (OtherGoal p)
    (misfits.other_goal_at m law list p c.in-Some.due c.loop-place.stack.dues c.loop-place.number (get_or list p blank) (progress.some_due m list p _ _ _ c.loop-place.invariant.0 _ c.in-Some.is)
    (slice_get-get_or list p blank c.loop-place-test.true) c.if-node-due.true)

pub returns-in_default-counts_before : goal.returns-in_default-counts_before
returns-in_default-counts_before g c =
    let s = c.args.counted.now in
    let m = g.C.Space.meaning s in
    let law = g.met.C.Space.lawful s in
    let list = c.args.nodes.now in
    let p = c.loop-place.place in
    misfits.judged_misfit m law list (NoLiveAlternative p)
    (misfits.no_live_at m law list p c.in-Some.due c.loop-place.stack.dues c.loop-place.number (get_or list p blank) (progress.some_due m list p _ _ _ c.loop-place.invariant.0 _ c.in-Some.is)
    (slice_get-get_or list p blank c.loop-place-test.true) c.if-node-due.false c.in_default-counts_before.ensures)

-- what each need of a turn rests on
turn_at : (g : given.Over) (c : goal.In-Some-counts_before g) →
    let s = c.args.counted.now in
    progress.Turn (g.C.Space.meaning s) (g.met.C.Space.lawful s) c.args.nodes.now c.loop-place.place c.in-Some.due (get_or c.args.nodes.now c.loop-place.place blank)
    c.loop-place.stack.dues c.loop-place.number c.in-Some-counts_before.before
turn_at g c =
    let s = c.args.counted.now in
    let m = g.C.Space.meaning s in
    let list = c.args.nodes.now in
    let p = c.loop-place.place in
    progress.turn m (g.met.C.Space.lawful s) list p c.in-Some.due (get_or list p blank) c.loop-place.stack.dues c.loop-place.number
    c.in-Some-counts_before.before (progress.some_due m list p _ _ _ c.loop-place.invariant.0 _ c.in-Some.is)
    (slice_get-get_or list p blank c.loop-place-test.true) c.if-node-due.false c.in-Some-counts_before.ensures

few_at : (g : given.Over) (c : goal.In-Some-counts_before g) → plans (g.C.Space.meaning c.args.counted.now) ≤ most_plans
few_at g c =
    let s = c.args.counted.now in
    c.tallies-tallies.ensures.few (g.C.Space.meaning s).root ((g.met.C.Space.lawful s).root_below c.tallies-tallies.ensures.some)

pub overflow_mul-number : goal.overflow_mul-number
overflow_mul-number g c = let v = (goal.at.overflow_mul-number g c).In-Some-counts_before in omega (arith, (turn_at g v).part, few_at g v)

pub overflow_add-number : goal.overflow_add-number
overflow_add-number g c = let v = (goal.at.overflow_add-number g c).In-Some-counts_before in omega (arith, (turn_at g v).below, few_at g v)

-- the count that was read for the left child is its count
count_read : (g : given.Over) (c : goal.After-left_count-left g) →
    c.left_count-left.result ≡ count (g.C.Space.meaning c.args.counted.now) (left_due (get_or c.args.nodes.now c.loop-place.place blank).alternative)
count_read g c =
    let s = c.args.counted.now in
    let m = g.C.Space.meaning s in
    let live = c.in-Some-counts_before.ensures.0 in
    let held = progress.some_due m c.args.nodes.now c.loop-place.place _ _ _ c.loop-place.invariant.0 _ c.in-Some.is in
    c.left_count-left.ensures
    ∙ standings.look_left m (g.met.C.Space.lawful s) c.tallies-tallies.result.now c.tallies-tallies.ensures _ live.index _
    (omega (arith, c.if-node-due.false, held.weighed.0.goal_below)) live.found

pub overflow_mul-due : goal.overflow_mul-due
overflow_mul-due g c =
    let v = (goal.at.overflow_mul-due g c).In-Some-counts_before in
    omega (arith, (turn_at g v).weight, few_at g v, ap (λ n. c.in-Some.due.number * n) (count_read g (goal.at.overflow_mul-due g c).After-left_count-left))

pub push_children-requires : goal.push_children-requires
push_children-requires g c = omega (arith, (turn_at g (goal.at.push_children-requires g c).In-Some-counts_before).room, c.loop-place.invariant.1)

pub loop-place-preserved : goal.loop-place-preserved
loop-place-preserved g c =
    let s = c.args.counted.now in
    let list = c.args.nodes.now in
    let p = c.loop-place.place in (
      progress.read_on (g.C.Space.meaning s) (g.met.C.Space.lawful s) list p c.in-Some.due (get_or list p blank) c.loop-place.stack.dues c.loop-place.number
          c.in-Some-counts_before.before (turn_at g (goal.at.loop-place-preserved g c).In-Some-counts_before) (popped c.pop-next.result c.pop-next.new.self.dues) c.left_count-left.result
          (c.pop-next.ensures.dues ∙ ap (λ (q : Pile). q.dues) c.push_children.ensures) (count_read g (goal.at.loop-place-preserved g c).After-left_count-left),
      omega (arith, c.pop-next.ensures.room, ap (λ (q : Pile). q.room) c.push_children.ensures, c.loop-place.invariant.1),
    )

pub returns-in-Some-next : goal.returns-in-Some-next
returns-in-Some-next g c =
    let s = c.args.counted.now in
    let m = g.C.Space.meaning s in
    let law = g.met.C.Space.lawful s in
    let list = c.args.nodes.now in
    let p = c.loop-place.place in
    let end : p ≡ length list = omega arith in
    misfits.judged_misfit m law list (ListEnds (length list))
    (subst (λ n. Misfit m list (ListEnds n)) end
    (misfits.list_ends_at m law list p c.in-Some-next.field-0 _ c.loop-place.number (progress.some_due m list p _ _ _ c.loop-place.invariant.0 _ c.in-Some-next.is) end))

pub returns-in-None : goal.returns-in-None
returns-in-None g c =
    let s = c.args.counted.now in
    let m = g.C.Space.meaning s in
    let law = g.met.C.Space.lawful s in
    let list = c.args.nodes.now in
    let p = c.loop-place.place in
    misfits.judged_number m law list c.loop-place.number
    (misfits.numbers_at m law list p c.loop-place.number (progress.none_due m list p _ _ _ c.loop-place.invariant.0 c.in-None.is) (omega arith))
