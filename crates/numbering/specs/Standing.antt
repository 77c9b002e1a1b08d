-- What is known once the tallies of a space stand in a buffer, and what the work under the calls does with them.
use Rattle.std.specs.Prelude.{◌≡◌, ℕ, ◌+◌, ◌<◌, ◌≤◌, List, ◌++◌, length, take, drop, Some, None, Option}
use Rattle.std.specs.List.{slice_get}
use Rattle.spaces.specs.declared.space.Alternative.{Alternative}
use Rattle.spaces.specs.Spaces.{Meaning}
use Rattle.numbering.specs.declared.node.Node.{Node}
use Rattle.numbering.specs.declared.tally.Tally.{Tally}
use Rattle.numbering.specs.Beginnings.{Live}
use Rattle.numbering.specs.Numbers.{Numbers}
use Rattle.numbering.specs.Plans.{all_ways, count, ways}
use Rattle.numbering.specs.Refusals.{largest}
use Rattle.numbering.specs.Tallies.{look, most_nodes, most_plans, tally}

-- the buffer ts has the tally of each goal of m, no goal has too many plans, and no plan is too large
pub record Standing (m : Meaning) (ts : List Tally) : Type 0 where
  pub some : 0 < m.goals
  pub room : m.goals ≤ length ts
  pub right : (g : ℕ) → g < m.goals → look ts (Some g) ≡ tally m g
  pub few : (g : ℕ) → g < m.goals → count m (Some g) ≤ most_plans
  pub small : largest m ≤ most_nodes

-- the number n of goal g falls to the alternative a and leaves rest there
pub record Falls (m : Meaning) (g n : ℕ) (a : Alternative) (rest : ℕ) : Type 0 where
  pub index : ℕ
  pub found : slice_get (m.lists g) index ≡ Some a
  pub within : rest < ways (count m) a
  pub sum : all_ways (count m) (take index (m.lists g)) + rest ≡ n

-- the counts of the alternatives of goal g before its live alternative a add up to b; none where a is no live alternative of g
abbrev pub Before : Meaning → ℕ → Alternative → Option ℕ → Type 0
Before m g a None = Live m g a → ⊥
Before m g a (Some b) = (l : Live m g a) × (b ≡ all_ways (count m) (take l.index (m.lists g)))

-- the plan of a number has been written into a buffer from its entry 0 on
pub record Written (m : Meaning) (number written : ℕ) (old new : List Node) : Type 0 where
  pub list : List Node
  pub numbers : Numbers m list number
  pub long : written ≡ length list
  pub small : written ≤ most_nodes
  pub buffer : new ≡ list ++ drop written old
