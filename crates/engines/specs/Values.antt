-- What a plan comes to under an engine's rule.
use Rattle.std.specs.Prelude.{◌≡◌, ℕ, cond, List, [], ◌∷◌, ◌++◌, length, take, drop, Some, Ok, Err, Option, Result, nat_lt}
use Rattle.spaces.specs.declared.kind.Kind.{Kind}
use Rattle.spaces.specs.declared.space.Alternative.{Alternative}
use Rattle.spaces.specs.Kinds.{arity}
use Rattle.spaces.specs.Spaces.{Meaning}
use Rattle.numbering.specs.declared.node.Node.{Node}
use Rattle.numbering.specs.Plans.{Tree, node, nodes, none}
use Rattle.engines.specs.Faults.{children_misfit}

-- A rule gives an operator a result or a fault number, from its kind, its tag and its children's results, left first.
abbrev pub Rule : Type 0 → Type 0
Rule V = Kind → ℕ → List V → Result V ℕ

-- the results of two parts, left first; the right part is worked out first, so its fault comes first
abbrev pub both : {V : Type 0} → Result (List V) ℕ → Result (List V) ℕ → Result (List V) ℕ
both left (Err fault) = Err fault
both (Err fault) (Ok right) = Err fault
both (Ok left) (Ok right) = Ok (left ++ right)

-- an operator over its children, unless one of them has a fault
abbrev pub over : {V : Type 0} → Rule V → Alternative → Result (List V) ℕ → Result V ℕ
over rule a (Ok children) = rule a.kind a.tag children
over rule a (Err fault) = Err fault

-- a result on top of a stack
abbrev pub pushed : {V : Type 0} → Result V ℕ → List V → Result (List V) ℕ
pushed (Ok v) stack = Ok (v ∷ stack)
pushed (Err fault) stack = Err fault

-- the result of a plan for what is due, as a list: there is none where nothing is due
abbrev pub results : {V : Type 0} {m : Meaning} {o : Option ℕ} → Rule V → Tree m o → Result (List V) ℕ
results rule none = Ok []
results rule (node i a e l r) = pushed (over rule a (both (results rule l) (results rule r))) []

-- The value of a plan: its top node's result, or the first fault where the right child is worked out first, then the left, then the node.
abbrev pub value : {V : Type 0} {m : Meaning} {g : ℕ} → Rule V → Tree m (Some g) → Result V ℕ
value rule (node i a e l r) = over rule a (both (results rule l) (results rule r))

-- a node over a stack of results: its children are on top, left first, and misfit where there are too few
abbrev pub at_top : {V : Type 0} → Rule V → Alternative → List V → Result V ℕ
at_top rule a stack = cond (nat_lt (length stack) (arity a.kind)) (Err children_misfit) (rule a.kind a.tag (take (arity a.kind) stack))

-- the stack after a node, whose result takes the place of its children
abbrev pub after : {V : Type 0} → Rule V → Alternative → Result (List V) ℕ → Result (List V) ℕ
after rule a (Ok stack) = pushed (at_top rule a stack) (drop (arity a.kind) stack)
after rule a (Err fault) = Err fault

-- the stack after a list of nodes, worked from its last to its first
abbrev pub worked : {V : Type 0} → Rule V → List Node → Result (List V) ℕ → Result (List V) ℕ
worked rule [] stack = stack
worked rule (x ∷ xs) stack = after rule x.alternative (worked rule xs stack)

-- the result on top of a stack; there is none where no node was worked
abbrev pub topmost : {V : Type 0} → Result (List V) ℕ → Result V ℕ
topmost (Ok []) = Err children_misfit
topmost (Ok (v ∷ stack)) = Ok v
topmost (Err fault) = Err fault

-- what any list of nodes comes to: for the list of a plan, the plan's value
abbrev pub value_of_list : {V : Type 0} → Rule V → List Node → Result V ℕ
value_of_list rule list = topmost (worked rule list (Ok []))

-- r is the value of every plan that has this list
abbrev pub Valued : {V : Type 0} → Rule V → List Node → Result V ℕ → Type 0
Valued rule list r = (m : Meaning) (g : ℕ) (t : Tree m (Some g)) → nodes t ≡ list → r ≡ value rule t
