-- The numbers of complete plans.
use Rattle.std.specs.Prelude.{◌≡◌, ℕ, ◌<◌, List, Some}
use Rattle.spaces.specs.Spaces.{Meaning}
use Rattle.numbering.specs.declared.node.Node.{Node}
use Rattle.numbering.specs.Plans.{Tree, count, nodes, number}

-- the list is that of a complete plan whose number is n
abbrev pub Numbers : Meaning → List Node → ℕ → Type 0
Numbers m list n = (t : Tree m (Some m.root)) × (nodes t ≡ list) × (number t ≡ n)

-- complete plans and the numbers below N, one to one
pub record Numbering (m : Meaning) : Type 0 where
  pub within : (list : List Node) (n : ℕ) → Numbers m list n → n < count m (Some m.root)
  pub one_number : (list : List Node) (n k : ℕ) → Numbers m list n → Numbers m list k → n ≡ k
  pub one_list : (list other : List Node) (n : ℕ) → Numbers m list n → Numbers m other n → list ≡ other
  pub every_number : (n : ℕ) → n < count m (Some m.root) → (list : List Node) × Numbers m list n
  pub one_tree : (t s : Tree m (Some m.root)) → nodes t ≡ nodes s → t ≡ s
