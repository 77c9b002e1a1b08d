-- A plan's text read back into the plan's list.
use Rattle.std.specs.Prelude.{◌≡◌, ℕ, ◌<◌, false, List, [], ◌∷◌, ◌++◌, length, take, Some, None}
use Rattle.spaces.specs.Spaces.{Lawful, Meaning}
use Rattle.numbering.specs.declared.node.Node.{Node}
use Rattle.numbering.specs.Plans.{Tree, nodes}
use Rattle.texts.specs.declared.error.TextError.{TextError}
use Rattle.texts.specs.declared.error.TextError.TheVariants.{BytesFollow, NoMark, NoMemory, NoNode}
use Rattle.texts.specs.Layout.{ahead}
use Rattle.texts.specs.Links.{linked}
use Rattle.texts.specs.Listed.{text, texts}
use Rattle.texts.specs.Texts.{tree_text}
use Rattle.texts.specs.Parts.{LabelAt, bare, byte_at}

-- a list without its children's goals
abbrev pub stripped : List Node → List Node
stripped [] = []
stripped (n ∷ ns) = bare n.alternative.kind n.alternative.tag n.goal ∷ stripped ns

-- the list has the text, a child's goal is that of its own node, and the list is the plan's where the text is that of a plan of a lawful space
pub record ReadAs (bytes : List ℕ) (list : List Node) : Type 0 where
  pub same : text list ≡ bytes
  pub children : linked list ≡ list
  pub plan : (m : Meaning) → Lawful m → (g : ℕ) (t : Tree m (Some g)) → tree_text t ≡ bytes → list ≡ nodes t

-- a node is due at p and none stands there: the bytes before p begin the text of every list that begins with `list`, and the marks are then due
pub record NodeDue (bytes : List ℕ) (p : ℕ) : Type 0 where
  pub list : List Node
  pub marks : List ℕ
  pub begins : (ns : List Node) → text (list ++ ns) ≡ take p bytes ++ ahead marks (texts ns)
  pub missing : LabelAt bytes p None

-- the mark is due at p and does not stand there: the bytes before p and then the mark begin the text of every list that begins with `list`
pub record MarkDue (bytes : List ℕ) (p : ℕ) : Type 0 where
  pub list : List Node
  pub mark : ℕ
  pub left : List Node → List ℕ
  pub begins : (ns : List Node) → text (list ++ ns) ≡ take p bytes ++ (mark ∷ left ns)
  pub other : byte_at bytes p mark ≡ false

-- the end is due at p: the bytes before p are the text of `list`
pub record EndDue (bytes : List ℕ) (p : ℕ) : Type 0 where
  pub list : List Node
  pub whole : text list ≡ take p bytes
  pub more : p < length bytes

-- where a text breaks
abbrev pub Breaks : List ℕ → TextError → Type 0
Breaks bytes (NoNode p) = NodeDue bytes p
Breaks bytes (NoMark p) = MarkDue bytes p
Breaks bytes (BytesFollow p) = EndDue bytes p
Breaks bytes NoMemory = Unit {0}

-- the text breaks there, and no plan of a lawful space has it; or there is no memory
pub record NotRead (bytes : List ℕ) (e : TextError) : Type 0 where
  pub breaks : Breaks bytes e
  pub plan : (m : Meaning) → Lawful m → (g : ℕ) (t : Tree m (Some g)) → tree_text t ≡ bytes → e ≡ NoMemory

-- the same before the children's goals are known
pub record NodesRead (bytes : List ℕ) (list : List Node) : Type 0 where
  pub same : text list ≡ bytes
  pub plan : (m : Meaning) → Lawful m → (g : ℕ) (t : Tree m (Some g)) → tree_text t ≡ bytes → list ≡ stripped (nodes t)
