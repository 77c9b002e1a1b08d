-- What stands at an index of a text: a number, a node's own part, a byte.
use Rattle.std.specs.Prelude.{◌≡◌, ℕ, ◌<◌, ◌≤◌, Bool, true, false, ◌&&◌, List, [], ◌∷◌, ◌++◌, length, drop, Some, None, decimal, Option, ◌==◌, nat_lt, slice_index}
use Rattle.std.specs.List.{between}
use Rattle.std.specs.Str.{all_ascii_digits}
use Rattle.std.specs.Char.{is_ascii_digit}
use Rattle.spaces.specs.declared.kind.Kind.{Kind}
use Rattle.numbering.specs.declared.node.Node.{Node}
use Rattle.texts.specs.Texts.{label}

-- the list begins with no digit
abbrev pub NoDigit : List ℕ → Type 0
NoDigit [] = Unit {0}
NoDigit (c ∷ cs) = is_ascii_digit c ≡ false

-- the digits from the index i to e are all that stand there
pub record Run (bytes : List ℕ) (i e : ℕ) : Type 0 where
  pub from : i ≤ e
  pub to : e ≤ length bytes
  pub digits : all_ascii_digits (between i e bytes) ≡ true
  pub ends : NoDigit (drop e bytes)

-- what is written at the index i is `part`, up to e, and no digit follows
pub record Stands (part bytes : List ℕ) (i e : ℕ) : Type 0 where
  pub to : e ≤ length bytes
  pub is : drop i bytes ≡ part ++ drop e bytes
  pub ends : NoDigit (drop e bytes)

-- the number below 65,536 that stands at i and the index after it; none where there is none
abbrev pub NumberAt : List ℕ → ℕ → Option (ℕ × ℕ) → Type 0
NumberAt bytes i (Some p) = Stands (decimal p.0) bytes i p.1 × (p.0 < 65536)
NumberAt bytes i None = (n e : ℕ) → n < 65536 → Stands (decimal n) bytes i e → ⊥

-- a node of which the children's goals are not known
abbrev pub bare : Kind → ℕ → ℕ → Node
bare k t g = record { goal = g; alternative = record { kind = k; tag = t; left = 0; right = 0 } }

-- the own part of the node n stands at i, up to e, and its children's goals are 0
pub record Labelled (bytes : List ℕ) (i : ℕ) (n : Node) (e : ℕ) : Type 0 where
  pub stands : Stands (label n) bytes i e
  pub plain : n ≡ bare n.alternative.kind n.alternative.tag n.goal
  pub tag : n.alternative.tag < 65536
  pub goal : n.goal < 65536

-- the node whose own part stands at i, and the index after it; none where there is none
abbrev pub LabelAt : List ℕ → ℕ → Option (Node × ℕ) → Type 0
LabelAt bytes i (Some p) = Labelled bytes i p.0 p.1
LabelAt bytes i None = (k : Kind) (t g e : ℕ) → t < 65536 → g < 65536 → Stands (label (bare k t g)) bytes i e → ⊥

-- the byte b stands at the index i
abbrev pub byte_at : List ℕ → ℕ → ℕ → Bool
byte_at bytes i b = nat_lt i (length bytes) && slice_index bytes i == b
