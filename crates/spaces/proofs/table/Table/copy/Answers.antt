use Rattle.std.proofs.Common.{sym, subst}
use Rattle.spaces.specs.Spaces.{Lawful}
use Rattle.spaces.proofs.Tabling.{copied_means}
use Rattle.spaces.proofs.table.Table.copy.Goals as goal

pub invariant_of-result : goal.invariant_of-result
invariant_of-result g c =
    let law = g.met.S.Space.lawful c.args.space.now in
    let means = copied_means _ _ _ _ law c.goals.ensures c.root.ensures c.in_ok-lists.ensures in
    record { lawful = subst Lawful (sym means) law }

pub returns : goal.returns
returns g c = copied_means _ _ _ _ (g.met.S.Space.lawful c.args.space.now) c.goals.ensures c.root.ensures c.in_ok-lists.ensures
