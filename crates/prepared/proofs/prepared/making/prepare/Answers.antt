use Rattle.std.proofs.Common.{◌≡◌, None, vec_items, subst}
use Rattle.numbering.specs.Refusals.{count_checks, first_of}
use Rattle.spaces.specs.TableSpaces.{table_space}
use Rattle.prepared.proofs.Ready.{counted}
use Rattle.prepared.proofs.prepared.making.prepare.Goals as goal

pub returns : goal.returns
returns g c =
    let means = c.in_ok-table.ensures in
    record {
      means = means;
      counted = subst (λ m. first_of (count_checks m m.goals) ≡ None) means (counted (table_space c.in_ok-table.table) (vec_items c.in_ok-tallies.tallies) c.in_ok-tallies.ensures);
    }
