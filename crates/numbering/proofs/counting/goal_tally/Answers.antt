use Rattle.std.proofs.Common.{rules, ◌∙◌}
use Rattle.std.specs.Iterator.{YieldsFirst}
use Rattle.std.proofs.lemmas.Iterator.Consumers.{YieldsList-from_first, fold_from_yields_List}
use Rattle.spaces.specs.declared.space.Alternative.{Alternative}
use Rattle.spaces.specs.Spaces.{ahead}
use Rattle.numbering.specs.declared.tally.Tally.{Tally}
use Rattle.numbering.specs.Tallies.{cut, look, of_alternative, plus}
use Rattle.numbering.proofs.Cuts.{fold_list}
use Rattle.numbering.proofs.counting.goal_tally.Goals as goal

pub returns : goal.returns
returns g c =
    let m = g.S.Space.meaning in
    let f = look c.args.tallies.now in
    let xs = (m c.args.space.now).lists c.args.goal in
    fold_from_yields_List {A = Alternative} {B = Alternative} {C = Tally} {steps = YieldsFirst (ahead m)} {v = λ a. a} {s = c.alternatives.result} {all = xs}
    _ (λ t a. cut (plus t (cut (of_alternative f a)))) c.default.result c.fold.result c.fold.ensures.ran
    (YieldsList-from_first (λ a. a) (ahead m) xs c.alternatives.ensures) (λ t a u q k. search rules)
    ∙ fold_list f c.default.result xs c.default.ensures
