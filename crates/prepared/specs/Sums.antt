-- Running sums of the counts of a goal's alternatives.
use Rattle.std.specs.Prelude.{◌≡◌, ℕ, ◌+◌, ◌<◌, ◌≤◌, List, [], map, length, take, slice_index, slice_index_or}
use Rattle.std.specs.List.{range_with_len}
use Rattle.spaces.specs.Spaces.{Meaning}
use Rattle.numbering.specs.Plans.{all_ways, count}

-- the counts of the alternatives of goal g before place i, added up
abbrev pub sum_before : Meaning → ℕ → ℕ → ℕ
sum_before m g i = all_ways (count m) (take i (m.lists g))

-- these sums for each alternative of goal g
abbrev pub goal_sums : Meaning → ℕ → List ℕ
goal_sums m g = map (sum_before m g) (range_with_len 0 (length (m.lists g)))

-- the sums of goal g stand in list number g, and a goal past the last list has none
abbrev pub Summed : Meaning → List (List ℕ) → Type 0
Summed m sums = (g : ℕ) → slice_index_or sums g [] ≡ goal_sums m g

-- r is the last place whose sum is no more than the number, as far as its neighbour tells
pub record Sought (sums : List ℕ) (number r : ℕ) : Type 0 where
  pub before : r < length sums
  pub low : slice_index_or sums r 0 ≤ number
  pub high : r + 1 < length sums → number < slice_index sums (r + 1)
