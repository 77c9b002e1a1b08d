-- The goals of children, which a text says only at their own nodes.
use Rattle.std.specs.Prelude.{ℕ, Bool, true, false, List, [], ◌∷◌, ◌==◌, nat_le}
use Rattle.spaces.specs.Kinds.{arity}
use Rattle.numbering.specs.declared.node.Node.{Node}

-- of the goals of the plans that follow, the first where a child is wanted, and the others
abbrev pub child : Bool → List ℕ → ℕ
child false gs = 0
child true [] = 0
child true (g ∷ gs) = g

abbrev pub others : Bool → List ℕ → List ℕ
others false gs = gs
others true [] = []
others true (g ∷ gs) = gs

abbrev pub has_left : Node → Bool
has_left n = nat_le 1 (arity n.alternative.kind)

abbrev pub has_right : Node → Bool
has_right n = arity n.alternative.kind == 2

-- the goals of the plans that stand in a list one after the other
abbrev pub roots : List Node → List ℕ
roots [] = []
roots (n ∷ ns) = n.goal ∷ others (has_right n) (others (has_left n) (roots ns))

-- a node with the goals of its children, where gs are those of the plans that follow it
abbrev pub with_children : Node → List ℕ → Node
with_children n gs =
    record { goal = n.goal; alternative = record { kind = n.alternative.kind; tag = n.alternative.tag; left = child (has_left n) gs; right = child (has_right n) (others (has_left n) gs) } }

abbrev pub linked : List Node → List Node
linked [] = []
linked (n ∷ ns) = with_children n (roots ns) ∷ linked ns
