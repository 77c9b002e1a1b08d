-- The list of the plan that has a given number, by digits: the place of the number in the sum over the alternatives, then the left child's number as the low digit.
use Rattle.std.specs.Prelude.{ℕ, zero, suc, ◌-◌, ◌/◌, ◌%◌, cond, List, [], ◌∷◌, ◌++◌, Some, None, Option, nat_lt}
use Rattle.spaces.specs.declared.space.Alternative.{Alternative}
use Rattle.spaces.specs.Spaces.{Meaning}
use Rattle.numbering.specs.declared.node.Node.{Node}
use Rattle.numbering.specs.Plans.{count, left_due, right_due, ways}

-- the alternative that number x falls to, and what is left of x there
abbrev pub pick : (Option ℕ → ℕ) → List Alternative → ℕ → Option (Alternative × ℕ)
pick c [] x = None
pick c (a ∷ rest) x = cond (nat_lt x (ways c a)) (Some (a, x)) (pick c rest (x - ways c a))

-- a node and its children's lists, by what `below` lists for what is due and a number
abbrev pub grown : (Option ℕ → ℕ → List Node) → (Option ℕ → ℕ) → ℕ → Option (Alternative × ℕ) → List Node
grown below c g None = []
grown below c g (Some p) =
    record { goal = g; alternative = p.0 }
    ∷ (below (left_due p.0) (p.1 % c (left_due p.0)) ++ below (right_due p.0) (p.1 / c (left_due p.0)))

-- to a depth
abbrev pub listed_to : Meaning → ℕ → Option ℕ → ℕ → List Node
listed_to m d None x = []
listed_to m zero (Some g) x = []
listed_to m (suc d) (Some g) x = grown (listed_to m d) (count m) g (pick (count m) (m.lists g) x)

-- the complete plan with the number x
unfoldable pub listing : Meaning → ℕ → List Node
listing m x = listed_to m (suc m.root) (Some m.root) x
