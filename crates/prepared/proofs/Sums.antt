-- Running sums: how they are made, and that they rise.
use Rattle.std.proofs.Common.{◌≡◌, ℕ, ◌+◌, ◌<◌, ◌≤◌, List, [], map, length, get_or, Some, sym, ap, ◌∙◌, ⊎_elim, arith}
use Rattle.std.specs.List.{range_with_len, slice_get}
use Rattle.std.proofs.lemmas.List.{get_or_past}
use Rattle.std.proofs.lemmas.List.FromFn.{get_or-map-range_with_len, length-map-range_with_len}
use Rattle.std.proofs.lemmas.Option.{slice_get-get_or}
use Rattle.std.proofs.lemmas.Bool.{cases_lt}
use Rattle.spaces.specs.declared.space.Alternative.{Alternative}
use Rattle.spaces.specs.Spaces.{Lawful, Meaning}
use Rattle.numbering.specs.declared.tally.Tally.{Tally}
use Rattle.numbering.specs.Plans.{count, ways}
use Rattle.numbering.specs.Standing.{Standing}
use Rattle.numbering.specs.Tallies.{look, most_plans}
use Rattle.numbering.proofs.Counts.{count_goal}
use Rattle.numbering.proofs.Picks.{before_below}
use Rattle.numbering.proofs.Standings as standings
use Rattle.prepared.specs.Sums.{Summed, goal_sums, sum_before}

-- One alternative more, the one at place i of the goal's list xs.
module _ (m : Meaning) (law : Lawful m) (ts : List Tally) (up : Standing m ts) (g : ℕ) (h : g < m.goals) (xs : List Alternative) (is : xs ≡ m.lists g) (i : ℕ) (l : i < length xs) (d : Alternative) where
  found : slice_get (m.lists g) i ≡ Some (get_or xs i d)
  found = ap (λ ys. slice_get ys i) (sym is) ∙ slice_get-get_or xs i d l

  pub ways_few : ways (λ o. (look ts o).count) (get_or xs i d) ≤ most_plans
  ways_few = standings.look_few m law ts up g i _ h found

  module _ (n : ℕ) (told : n ≡ ways (λ o. (look ts o).count) (get_or xs i d)) where
    pub sum_next : sum_before m g (i + 1) ≡ sum_before m g i + n
    sum_next = omega (arith, told, standings.ways_more (count m) (m.lists g) i _ found, standings.ways_look m law ts up g i _ h found)

    pub sum_few : sum_before m g i + n ≤ most_plans
    sum_few = omega (arith, told, standings.ways_look m law ts up g i _ h found, before_below (count m) (m.lists g) i _ found, count_goal m law g, up.few g h)

-- the sums of the goals below the last are those of all goals: past them there is nothing to sum
pub summed : (m : Meaning) → Lawful m → (sums : List (List ℕ)) → sums ≡ map (goal_sums m) (range_with_len 0 m.goals) → Summed m sums
summed m law sums e g =
    ap (λ xs. get_or xs g []) e
    ∙ ⊎_elim
    (λ (l : g < m.goals). get_or-map-range_with_len (goal_sums m) 0 m.goals g g [] l (omega arith))
    (λ (l : m.goals ≤ g). get_or_past (map (goal_sums m) (range_with_len 0 m.goals)) g [] (omega (arith, length-map-range_with_len (goal_sums m) 0 m.goals)) ∙ ap (λ xs. map (sum_before m g) (range_with_len 0 (length xs))) (sym (law.outside g l)))
    (cases_lt g m.goals)
