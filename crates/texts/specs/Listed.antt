-- The text of any list of nodes, a plan's or not.
use Rattle.std.specs.Prelude.{ℕ, zero, suc, List, [], ◌∷◌, ◌++◌}
use Rattle.spaces.specs.Kinds.{arity}
use Rattle.numbering.specs.declared.node.Node.{Node}
use Rattle.texts.specs.Texts.{label, wrapped}

-- the first of some texts, and those after it
abbrev pub first : List (List ℕ) → List ℕ
first [] = []
first (t ∷ ts) = t

abbrev pub rest : List (List ℕ) → List (List ℕ)
rest [] = []
rest (t ∷ ts) = ts

-- the texts after the first k, for k up to two
abbrev pub past : ℕ → List (List ℕ) → List (List ℕ)
past zero ts = ts
past (suc zero) ts = rest ts
past (suc (suc k)) ts = rest (rest ts)

-- a node of k children before some texts: the first k of them become its children's
abbrev pub headed : ℕ → List ℕ → List (List ℕ) → List (List ℕ)
headed k lab ts = (lab ++ wrapped k (first ts) (first (rest ts))) ∷ past k ts

-- the texts of the plans that stand in a list one after the other, made from its end
abbrev pub texts : List Node → List (List ℕ)
texts [] = []
texts (n ∷ ns) = headed (arity n.alternative.kind) (label n) (texts ns)

abbrev pub flat : List (List ℕ) → List ℕ
flat [] = []
flat (t ∷ ts) = t ++ flat ts

unfoldable pub text : List Node → List ℕ
text ns = flat (texts ns)
