use Rattle.std.proofs.Common.{◌≡◌, ◌<◌, length, vec_items, Some, sym, ap, ◌∙◌, arith}
use Rattle.std.specs.List.{slice_get}
use Rattle.spaces.specs.Places.{some_below}
use Rattle.numbering.proofs.Standings.{before_told, look_few, ways_look}
use Rattle.prepared.specs.Prepares.{table}
use Rattle.prepared.specs.Sums.{goal_sums}
use Rattle.prepared.proofs.Falling.{long, row_is, row_within, sum_at}
use Rattle.prepared.proofs.prepared.lookup.PreparedCounted.counts_before.Goals as goal
use Rattle.prepared.proofs.prepared.lookup.PreparedCounted.counts_before.Goals.{After-index, In_ok-place}

pub alternative_count-count-requires : goal.alternative_count-count-requires
alternative_count-count-requires c =
    let p = c.args.self.now in
    look_few (table p) p.table.lawful _ c.tallies.ensures c.args.node.goal c.in_ok-place.place _ c.requires (ap (λ xs. slice_get xs c.in_ok-place.place) (sym c.goal_list.ensures) ∙ c.in_ok-place.ensures)

-- the node's alternative stands at the place
found : (c : In_ok-place) → slice_get ((table c.args.self.now).lists c.args.node.goal) c.in_ok-place.place ≡ Some c.args.node.alternative
found c = ap (λ xs. slice_get xs c.in_ok-place.place) (sym c.goal_list.ensures) ∙ c.in_ok-place.ensures

below : (c : In_ok-place) → c.in_ok-place.place < length ((table c.args.self.now).lists c.args.node.goal)
below c = some_below _ _ _ (found c)

pub index-requires : goal.index-requires
index-requires c =
    let p = c.args.self.now in
    omega (arith, c.from.ensures, p.sums.ok.0, row_within (table p) c.args.node.goal (omega (arith, below (goal.at.index-requires c).In_ok-place)) p.sums.items p.summed)

-- the sums of the node's goal
row : (c : After-index) → vec_items c.index.result.now ≡ goal_sums (table c.args.self.now) c.args.node.goal
row c =
    let p = c.args.self.now in
    row_is (table p) c.args.node.goal (omega (arith, below (goal.at.After-index c).In_ok-place)) p.sums.items p.summed c.from.result c.index.result.now c.from.ensures c.index.ensures

pub index-requires-2 : goal.index-requires-2
index-requires-2 c =
    let at = goal.at.index-requires-2 c in
    omega (arith, c.index.result.now.ok.0, long (table c.args.self.now) c.args.node.goal _ (row at.After-index), below at.In_ok-place)

pub returns : goal.returns
returns c =
    let p = c.args.self.now in
    let at = goal.at.returns c in
    let is = found at.In_ok-place in
    before_told (table p) c.args.node.goal c.in_ok-place.place c.alternative_count-count.result c.index-2.result.now c.args.node.alternative c.then_some.result is
    (c.alternative_count-count.ensures ∙ ways_look (table p) p.table.lawful _ c.tallies.ensures c.args.node.goal c.in_ok-place.place _ c.requires is)
    (c.index-2.ensures ∙ sum_at (table p) c.args.node.goal _ (row at.After-index) c.in_ok-place.place _ (below at.In_ok-place))
    c.then_some.ensures
