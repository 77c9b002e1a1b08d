-- A plan with two children has at least three nodes.
use Rattle.std.proofs.Common.{◌≡◌, ℕ, ◌<◌, List, ◌∷◌, length, Some, Option, ap, ◌∙◌, arith, length-append}
use Rattle.spaces.specs.Places.{none_some}
use Rattle.spaces.specs.Spaces.{Meaning}
use Rattle.numbering.proofs.Trees.{head_same}
use Rattle.numbering.specs.declared.node.Node.{Node}
use Rattle.numbering.specs.Plans.{Tree, left_due, node, nodes, none, right_due}

some_nodes : {m : Meaning} {o : Option ℕ} {g : ℕ} (t : Tree m o) → o ≡ Some g → 0 < length (nodes t)
some_nodes none e = none_some e
some_nodes (node i a h l r) e = omega arith

pub three_nodes : {m : Meaning} {g : ℕ} (t : Tree m (Some g)) (x : Node) (xs : List Node) (l r : ℕ) → nodes t ≡ x ∷ xs → left_due x.alternative ≡ Some l → right_due x.alternative ≡ Some r → 1 < length xs
three_nodes (node {g} i a h p q) x xs l r e dl dr =
    let a= : a ≡ x.alternative = ap (λ (n : Node). n.alternative) (head_same e) in
    omega (arith, ap length e, length-append (nodes p) (nodes q), some_nodes p (ap left_due a= ∙ dl), some_nodes q (ap right_due a= ∙ dr))
