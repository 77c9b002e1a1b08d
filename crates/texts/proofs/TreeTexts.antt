-- The text of a list of nodes is that of its tree.
use Rattle.std.proofs.Common.{◌≡◌, ℕ, zero, suc, List, [], ◌∷◌, ◌++◌, Some, None, Option, sym, refl, ap, ◌∙◌, append_assoc, append-nil}
use Rattle.numbering.specs.declared.node.Node.{Node}
use Rattle.spaces.specs.Kinds.{arity}
use Rattle.spaces.specs.Spaces.{Meaning}
use Rattle.numbering.specs.Plans.{Tree, first as first_due, left_due, node, nodes, none, second as second_due}
use Rattle.texts.specs.Listed.{flat, headed, text, texts}
use Rattle.texts.specs.Texts.{label, wrapped, tree_text}

-- what a due place adds to the texts
abbrev pub piece : Option ℕ → List ℕ → List (List ℕ) → List (List ℕ)
piece None t ts = ts
piece (Some g) t ts = t ∷ ts

-- a node of k children takes just those texts that its children add
pub put_one : (k a b : ℕ) (lab x y : List ℕ) (ts : List (List ℕ)) →
    headed k lab (piece (first_due k a) x (piece (second_due k b) y ts)) ≡ (lab ++ wrapped k x y) ∷ ts
put_one zero a b lab x y ts = refl
put_one (suc zero) a b lab x y ts = refl
put_one (suc (suc k)) a b lab x y ts = refl

pub texts_tree : {m : Meaning} {o : Option ℕ} (t : Tree m o) (ns : List Node) → texts (nodes t ++ ns) ≡ piece o (tree_text t) (texts ns)
texts_tree none ns = refl
texts_tree (node {g} i a e l r) ns =
    let k = arity a.kind in
    let lab = label (record { goal = g; alternative = a }) in
    ap (λ x. headed k lab (texts x)) (append_assoc (nodes l) (nodes r) ns)
    ∙ ap (headed k lab) (texts_tree l (nodes r ++ ns) ∙ ap (piece (left_due a) (tree_text l)) (texts_tree r ns))
    ∙ put_one k a.left a.right lab (tree_text l) (tree_text r) (texts ns)

pub text_tree : {m : Meaning} {g : ℕ} (t : Tree m (Some g)) → text (nodes t) ≡ tree_text t
unfolding text
text_tree t =
    ap (λ x. flat (texts x)) (sym (append-nil (nodes t))) ∙ ap flat (texts_tree t []) ∙ append-nil (tree_text t)
