use Rattle.std.proofs.Common.{◌≤◌, length, vec_items, sym, ap, ◌∙◌, arith}
use Rattle.std.proofs.lemmas.List.{take_all}
use Rattle.spaces.specs.Places.{none_past}
use Rattle.spaces.proofs.Filling.{filled_more}
use Rattle.spaces.proofs.space.Space.list.Goals as goal
use Rattle.spaces.proofs.space.Space.list.Goals.{in-Some+in_ok-push, in_default}

pub loop-index-preserved : goal.loop-index-preserved
loop-index-preserved g c =
    let xs = (g.Self.Space.meaning c.args.self.now).lists c.args.goal in
    let i = c.loop-index.index in
    elim c.match-alternative.branch [
      | in-Some+in_ok-push w ↦ filled_more xs (vec_items c.loop-index.list) (vec_items c.match-alternative.list) i w.in-Some.alternative
          c.loop-index.invariant (sym c.alternative.ensures ∙ w.in-Some.is) (ap vec_items w.list-is ∙ w.in_ok-push.ensures.items)
      | in_default w ↦ absurd (omega (arith, none_past xs i (sym c.alternative.ensures ∙ w.in_default.is), c.width-index-end.ensures))
    ]

pub returns : goal.returns
returns g c =
    let xs = (g.Self.Space.meaning c.args.self.now).lists c.args.goal in
    let short : length xs ≤ c.loop-index.index = omega (arith, c.width-index-end.ensures) in
    c.loop-index.invariant ∙ take_all c.loop-index.index xs short
