-- Counts and sizes of goals together, cut off where the bench no longer tells them apart.
use Rattle.std.specs.Prelude.{ℕ, zero, suc, ◌+◌, ◌*◌, ◌<◌, min, max, Bool, false, ◌||◌, List, ◌++◌, map, drop, Some, None, Option, nat_lt, slice_index_or}
use Rattle.std.specs.List.{range_with_len}
use Rattle.spaces.specs.declared.space.Alternative.{Alternative}
use Rattle.spaces.specs.Spaces.{Meaning}
use Rattle.numbering.specs.declared.tally.Tally.{Tally}
use Rattle.numbering.specs.Plans.{all_ways, at_due, count, left_due, longest, right_due, size, when_live}

-- the largest count of a goal that the bench numbers, and the largest size of a plan
abbrev pub most_plans : ℕ
most_plans = 1000000000000000000

abbrev pub most_nodes : ℕ
most_nodes = 1024

-- a tally in a specification is unbounded
abbrev pub made : ℕ → ℕ → Tally
made c s = record { count = c; size = s }

abbrev pub cut : Tally → Tally
cut t = made (min t.count (suc most_plans)) (min t.size (suc most_nodes))

-- where nothing is due there is one way, and no node
abbrev pub nothing : Tally
nothing = made 1 0

-- an alternative, from the tallies of its children
abbrev pub joined : Tally → Tally → Tally
joined x y = made (x.count * y.count) (when_live (x.count * y.count) (suc (x.size + y.size)))

abbrev pub of_alternative : (Option ℕ → Tally) → Alternative → Tally
of_alternative f a = joined (f (left_due a)) (f (right_due a))

-- two parts of a goal's list
abbrev pub plus : Tally → Tally → Tally
plus x y = made (x.count + y.count) (max x.size y.size)

abbrev pub of_list : (Option ℕ → Tally) → List Alternative → Tally
of_list f xs = made (all_ways (λ o. (f o).count) xs) (longest (λ o. (f o).count) (λ o. (f o).size) xs)

-- the count and the size of what is due
abbrev pub exact : Meaning → Option ℕ → Tally
exact m o = made (count m o) (size m o)

-- the entry of goal g in a tally buffer
abbrev pub tally : Meaning → ℕ → Tally
tally m g = cut (exact m (Some g))

-- what a tally buffer says of what is due
abbrev pub look : List Tally → Option ℕ → Tally
look ts o = at_due nothing (λ g. slice_index_or ts g (made 0 0)) o

-- what is due, if it is a goal, is below n
abbrev pub Within : ℕ → Option ℕ → Type 0
Within n None = Unit {0}
Within n (Some g) = g < n

-- a buffer with its first n entries overwritten by tallies
abbrev pub filled : Meaning → ℕ → List Tally → List Tally
filled m n ts = map (tally m) (range_with_len 0 n) ++ drop n ts

-- a goal has too many plans, as its tally tells
abbrev pub many : Tally → Bool
many t = nat_lt most_plans t.count

-- one of the goals below n has too many plans
abbrev pub over : Meaning → ℕ → Bool
over m zero = false
over m (suc n) = over m n || nat_lt most_plans (count m (Some n))
