-- The text of a plan, and what a call that writes text answers.
use Rattle.std.specs.Prelude.{◌≡◌, ℕ, zero, suc, cond, List, [], ◌∷◌, ◌++◌, length, drop, Some, Ok, Err, decimal, Option, Result, nat_lt}
use Rattle.spaces.specs.Kinds.{arity, letter}
use Rattle.spaces.specs.Spaces.{Meaning}
use Rattle.numbering.specs.declared.node.Node.{Node}
use Rattle.numbering.specs.declared.refusal.Refusal.{Refusal}
use Rattle.numbering.specs.declared.refusal.Refusal.TheVariants.{TextShort}
use Rattle.numbering.specs.Plans.{Tree, node, nodes, none}

-- a node's own part: letter, tag, '@' and goal
abbrev pub label : Node → List ℕ
label n = letter n.alternative.kind ∷ (decimal n.alternative.tag ++ (64 ∷ decimal n.goal))

-- the texts of the first k of two children, in parentheses with a comma between; nothing for no children
abbrev pub wrapped : ℕ → List ℕ → List ℕ → List ℕ
wrapped zero x y = []
wrapped (suc zero) x y = 40 ∷ (x ++ (41 ∷ []))
wrapped (suc (suc k)) x y = 40 ∷ (x ++ (44 ∷ (y ++ (41 ∷ []))))

-- a plan's text: its top node's own part, and its children's texts
abbrev pub tree_text : {m : Meaning} {o : Option ℕ} → Tree m o → List ℕ
tree_text none = []
tree_text (node {g} i a e l r) = label (record { goal = g; alternative = a }) ++ wrapped (arity a.kind) (tree_text l) (tree_text r)

-- a plan's line: its number, a space, its text and a byte 10
unfoldable pub line : ℕ → List ℕ → List ℕ
line x bytes = decimal x ++ (32 ∷ (bytes ++ (10 ∷ [])))

-- what a call answers that has some bytes to write, and its buffer then: the bytes from byte 0 on, and their number; refused, and the buffer as it was, where it is too short
pub record Spelled (bytes : List ℕ) (r : Result ℕ Refusal) (old new : List ℕ) : Type 0 where
  pub answer : r ≡ cond (nat_lt (length old) (length bytes)) (Err TextShort) (Ok (length bytes))
  pub buffer : new ≡ cond (nat_lt (length old) (length bytes)) old (bytes ++ drop (length bytes) old)

-- of a list that is a plan's, the plan's text is written
abbrev pub PlanSpelled : List Node → Result ℕ Refusal → List ℕ → List ℕ → Type 0
PlanSpelled list r old new = (m : Meaning) (g : ℕ) (t : Tree m (Some g)) → nodes t ≡ list → Spelled (tree_text t) r old new
