use Rattle.std.proofs.Common.{◌≡◌, length, ap, ◌∙◌, arith}
use Rattle.prepared.specs.Prepares.{table}
use Rattle.prepared.specs.Sums.{goal_sums}
use Rattle.prepared.proofs.Falling as falling
use Rattle.prepared.proofs.prepared.lookup.PreparedCounted.pick.Goals as goal
use Rattle.prepared.proofs.prepared.lookup.PreparedCounted.pick.Goals.{After-as_slice-sums}

pub index-requires : goal.index-requires
index-requires c =
    let p = c.args.self.now in
    omega (arith, c.from.ensures, p.sums.ok.0, falling.row_within (table p) c.args.goal (falling.some_item (table p) p.table.lawful c.args.goal c.args.number c.requires.below) p.sums.items p.summed)

-- the sums that are searched
row : (c : After-as_slice-sums) → c.as_slice-sums.result.now ≡ goal_sums (table c.args.self.now) c.args.goal
row c =
    let p = c.args.self.now in
    c.as_slice-sums.ensures.value
    ∙ falling.row_is (table p) c.args.goal (falling.some_item (table p) p.table.lawful c.args.goal c.args.number c.requires.below) p.sums.items p.summed c.from.result c.index.result.now c.from.ensures c.index.ensures

pub seek-place-requires : goal.seek-place-requires
seek-place-requires c =
    let p = c.args.self.now in
    let sums = row (goal.at.seek-place-requires c).After-as_slice-sums in
    record {
      sorted = falling.rises (table p) c.args.goal _ sums;
      some = falling.some (table p) p.table.lawful c.args.goal c.args.number c.requires.below _ sums;
      low = falling.least (table p) p.table.lawful c.args.goal c.args.number c.requires.below _ sums;
    }

pub bounds-goal_list-place : goal.bounds-goal_list-place
bounds-goal_list-place c =
    let p = c.args.self.now in
    let sums = row (goal.at.bounds-goal_list-place c).After-as_slice-sums in
    omega (arith, ap length c.goal_list.ensures, falling.under (table p) p.table.lawful c.args.goal c.args.number c.requires.below _ sums _ c.seek-place.ensures)

pub returns : goal.returns
returns c =
    let p = c.args.self.now in
    let sums = row (goal.at.returns c).After-as_slice-sums in
    falling.falls (table p) p.table.lawful c.args.goal c.args.number c.requires.below _ sums _ c.seek-place.ensures _ _ c.goal_list.ensures
