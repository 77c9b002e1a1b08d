-- Beginnings of plans, and where a list stops being one.
use Rattle.std.specs.Prelude.{◌≡◌, ℕ, ◌<◌, ◌≤◌, List, [], ◌∷◌, ◌++◌, length, take, Some, None, Option, ◌≢◌}
use Rattle.std.specs.List.{slice_get}
use Rattle.spaces.specs.declared.space.Alternative.{Alternative}
use Rattle.spaces.specs.Spaces.{Meaning}
use Rattle.numbering.specs.declared.node.Node.{Node}
use Rattle.numbering.specs.declared.refusal.Refusal.{Refusal}
use Rattle.numbering.specs.declared.refusal.Refusal.TheVariants.{ListEnds, NoLiveAlternative, NodesFollow, OtherGoal}
use Rattle.numbering.specs.Plans.{Complete, count, left_due, right_due, ways}

-- some complete plan begins with the list
abbrev pub Begins : Meaning → List Node → Type 0
Begins m list = (rest : List Node) × Complete m (list ++ rest)

abbrev pub goals_of : Option ℕ → List ℕ
goals_of None = []
goals_of (Some g) = g ∷ []

-- the goals due once an alternative was chosen for the first goal due: its children's, the left one's first, and then those due before
abbrev pub due_then : Alternative → List ℕ → List ℕ
due_then a s = goals_of (left_due a) ++ (goals_of (right_due a) ++ s)

-- the goals still due after a list of nodes, where s were due before it
abbrev pub due_after : List ℕ → List Node → List ℕ
due_after s [] = s
due_after [] (x ∷ xs) = []
due_after (g ∷ s) (x ∷ xs) = due_after (due_then x.alternative s) xs

-- the goal that the order of the list calls for after its first p nodes
abbrev pub goal_due : Meaning → List Node → ℕ → Option ℕ
goal_due m list p = slice_get (due_after (m.root ∷ []) (take p list)) 0

-- a is an alternative of goal g that has a plan
pub record Live (m : Meaning) (g : ℕ) (a : Alternative) : Type 0 where
  pub index : ℕ
  pub found : slice_get (m.lists g) index ≡ Some a
  pub some : 0 < ways (count m) a

-- the list is no complete plan, and p is the length of its longest beginning with which some complete plan begins, 0 where there is no plan at all
pub record BreaksAt (m : Meaning) (list : List Node) (p : ℕ) : Type 0 where
  pub incomplete : Complete m list → ⊥
  pub within : p ≤ length list
  pub begins : 0 < count m (Some m.root) → Begins m (take p list)
  pub none : count m (Some m.root) ≡ 0 → p ≡ 0
  pub no_longer : (q : ℕ) → p < q → q ≤ length list → Begins m (take q list) → ⊥

-- why a list is no complete plan: the place where it breaks, and what stands there against the goal due
pub data Misfit (m : Meaning) (list : List Node) : Refusal → Type 0 where
  other_goal : (p g : ℕ) (x : Node) → BreaksAt m list p → goal_due m list p ≡ Some g → slice_get list p ≡ Some x → (x.goal ≢ g) → Misfit m list (OtherGoal p)
  no_live_alternative : (p : ℕ) (x : Node) → BreaksAt m list p → goal_due m list p ≡ Some x.goal → slice_get list p ≡ Some x → (Live m x.goal x.alternative → ⊥) → Misfit m list (NoLiveAlternative p)
  list_ends : (p g : ℕ) → BreaksAt m list p → goal_due m list p ≡ Some g → p ≡ length list → Misfit m list (ListEnds p)
  nodes_follow : (p : ℕ) (x : Node) → BreaksAt m list p → goal_due m list p ≡ None → slice_get list p ≡ Some x → Misfit m list (NodesFollow p)
