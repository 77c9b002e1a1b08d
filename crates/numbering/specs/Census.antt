-- How many complete plans a space has, and how long the longest is.
use Rattle.std.specs.Prelude.{◌≡◌, ℕ, ◌<◌, ◌≤◌, List, length, Some}
use Rattle.std.specs.List.{AllByRecursion, slice_get}
use Rattle.spaces.specs.Spaces.{Apart, Meaning}
use Rattle.numbering.specs.declared.node.Node.{Node}
use Rattle.numbering.specs.Plans.{Complete}

-- the complete plans of m, written down one after the other: each once, and none left out
pub record Roll (m : Meaning) : Type 0 where
  pub plans : List (List Node)
  pub apart : Apart plans
  pub complete : AllByRecursion (Complete m) plans
  pub whole : (list : List Node) → Complete m list → (i : ℕ) × (slice_get plans i ≡ Some list)

-- m has n complete plans, and the longest has z nodes, none where there is no plan
pub record Census (m : Meaning) (n z : ℕ) : Type 0 where
  pub roll : Roll m
  pub count : length roll.plans ≡ n
  pub most : (list : List Node) → Complete m list → length list ≤ z
  pub reached : 0 < n → (list : List Node) × Complete m list × (length list ≡ z)
  pub none : n ≡ 0 → z ≡ 0
