-- Plans of a space as trees, their lists and their numbers.
use Rattle.std.specs.Prelude.{◌≡◌, ℕ, zero, suc, ◌+◌, ◌*◌, max, List, [], ◌∷◌, ◌++◌, take, Some, None, Option}
use Rattle.std.specs.List.{slice_get}
use Rattle.spaces.specs.declared.space.Alternative.{Alternative}
use Rattle.spaces.specs.Kinds.{arity}
use Rattle.spaces.specs.Spaces.{Meaning}
use Rattle.numbering.specs.declared.node.Node.{Node}

-- what is due at a child's place: a goal, or nothing where an alternative has fewer children
abbrev pub first : ℕ → ℕ → Option ℕ
first zero g = None
first (suc n) g = Some g

abbrev pub second : ℕ → ℕ → Option ℕ
second zero g = None
second (suc zero) g = None
second (suc (suc n)) g = Some g

abbrev pub left_due : Alternative → Option ℕ
left_due a = first (arity a.kind) a.left

abbrev pub right_due : Alternative → Option ℕ
right_due a = second (arity a.kind) a.right

-- a function of goals at what is due, and `one` where nothing is
abbrev pub at_due : {X : Type 0} → X → (ℕ → X) → Option ℕ → X
at_due one f None = one
at_due one f (Some g) = f g

-- the count of an alternative: the product of its children's, where nothing due counts 1
abbrev pub ways : (Option ℕ → ℕ) → Alternative → ℕ
ways c a = c (left_due a) * c (right_due a)

-- the counts of some alternatives added up
abbrev pub all_ways : (Option ℕ → ℕ) → List Alternative → ℕ
all_ways c [] = 0
all_ways c (a ∷ rest) = ways c a + all_ways c rest

-- A rule makes a goal's number from its alternatives and the numbers of what is due below it.
abbrev pub Rule : Type 0
Rule = (Option ℕ → ℕ) → List Alternative → ℕ

-- the numbers that a rule gives to goals, to a depth; `one` is the number where nothing is due
abbrev pub to_depth : ℕ → Rule → Meaning → ℕ → ℕ → ℕ
to_depth one F m zero g = 0
to_depth one F m (suc d) g = F (at_due one (to_depth one F m d)) (m.lists g)

-- the children of a goal are below it, so the depth g + 1 is enough
abbrev pub of_goals : ℕ → Rule → Meaning → Option ℕ → ℕ
of_goals one F m o = at_due one (λ g. to_depth one F m (suc g) g) o

-- the count of a goal: the sum over its alternatives
unfoldable pub count : Meaning → Option ℕ → ℕ
count m = of_goals 1 all_ways m

-- n for what has w ways, where that is at least one
abbrev pub when_live : ℕ → ℕ → ℕ
when_live zero n = 0
when_live (suc w) n = n

-- over the alternatives that have a plan, the greatest of one more than the children's sizes
abbrev pub longest : (Option ℕ → ℕ) → Rule
longest c s [] = 0
longest c s (a ∷ rest) = max (when_live (ways c a) (suc (s (left_due a) + s (right_due a)))) (longest c s rest)

-- the size of a goal: the greatest over its live alternatives, 0 if none is live
unfoldable pub size : Meaning → Option ℕ → ℕ
size m = of_goals 0 (longest (count m)) m

-- A plan of a goal is a tree: an alternative of the goal, by its place, and plans for its children. The empty tree stands where nothing is due.
pub data Tree (m : Meaning) : Option ℕ → Type 0 where
  none : Tree m None
  node : {g : ℕ} (i : ℕ) (a : Alternative) → slice_get (m.lists g) i ≡ Some a → Tree m (left_due a) → Tree m (right_due a) → Tree m (Some g)

-- a plan's list: the node, the left child's list, the right child's list
abbrev pub nodes : {m : Meaning} {o : Option ℕ} → Tree m o → List Node
nodes none = []
nodes (node {g} i a e l r) = record { goal = g; alternative = a } ∷ (nodes l ++ nodes r)

-- a plan's number within its goal: the counts of the alternatives before its own, the left child's number, and the right child's weighted by the left goal's count
abbrev pub number : {m : Meaning} {o : Option ℕ} → Tree m o → ℕ
number none = 0
number {m} (node {g} i a e l r) = all_ways (count m) (take i (m.lists g)) + (number l + count m (left_due a) * number r)

-- a complete plan is one of the root
abbrev pub Complete : Meaning → List Node → Type 0
Complete m list = (t : Tree m (Some m.root)) × (nodes t ≡ list)
