use Rattle.std.proofs.Common.{◌-◌, eqb, leb, get_or, vec_items, refl, ap, arith}
use Rattle.texts.proofs.Links.{link_more, link_start}
use Rattle.texts.proofs.Turns.{blank}
use Rattle.texts.proofs.link.link.Goals as goal

pub loop-index-init : goal.loop-index-init
loop-index-init c =
    let start = link_start c.args.nodes.now (vec_items c.new-goals.result) c.new-goals.ensures.items in
    record { within = omega arith; due = start.0; done = start.1 }

pub loop-index-preserved : goal.loop-index-preserved
loop-index-preserved c =
    let i = c.loop-index.index in
    let before = c.loop-index.invariant in
    let more = link_more c.args.nodes.now c.loop-index.nodes i (i - 1) (get_or c.loop-index.nodes (i - 1) blank) (omega arith) before.within refl before.done
    (vec_items c.loop-index.goals) (vec_items c.take_child-left.new.goals) (vec_items c.take_child-right.new.goals) (vec_items c.push.new.self) _ _
    c.take_child-left.result c.take_child-right.result _ before.due (ap (leb 1) c.arity-arity.ensures) (ap (λ k. eqb k 2) c.arity-arity.ensures)
    c.take_child-left.ensures.goal c.take_child-left.ensures.goals c.take_child-right.ensures.goal c.take_child-right.ensures.goals c.in_ok-push.ensures.items refl in
    record { within = omega (arith, before.within); due = more.0; done = more.1 }
