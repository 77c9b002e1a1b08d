-- The marks between the nodes of a text, as they are passed in reading.
use Rattle.std.specs.Prelude.{◌≡◌, ℕ, zero, suc, ◌≤◌, Bool, true, false, cond, List, [], ◌∷◌, ◌++◌, reverse, length, drop, ◌==◌}
use Rattle.texts.specs.declared.error.TextError.{TextError}
use Rattle.texts.specs.declared.error.TextError.TheVariants.{BytesFollow, NoMark, NoMemory, NoNode}
use Rattle.texts.specs.declared.punctuation.Next.{Next}
use Rattle.texts.specs.declared.punctuation.Next.TheVariants.{End, Node}
use Rattle.texts.specs.Layout.{closing, opening}
use Rattle.texts.specs.Parts.{byte_at}

-- a stack that is kept with its top last, from its top on
abbrev pub from_top : List ℕ → List ℕ
from_top v = reverse v

-- what stands between the own part of a node of k children and the next node, where the marks s are due: after a leaf those up to a comma, else '('
abbrev pub passed : ℕ → List ℕ → List ℕ
passed zero s = closing s
passed (suc k) s = 40 ∷ []

-- the marks due then
abbrev pub due_then : ℕ → List ℕ → List ℕ
due_then zero s = opening s
due_then (suc zero) s = 41 ∷ s
due_then (suc (suc k)) s = 44 ∷ (41 ∷ s)

abbrev pub has_comma : List ℕ → Bool
has_comma [] = false
has_comma (c ∷ s) = cond (c == 44) true (has_comma s)

-- a node follows
abbrev pub goes_on : ℕ → List ℕ → Bool
goes_on zero s = has_comma s
goes_on (suc k) s = true

-- what follows the marks, as it is told
abbrev pub node_follows : Next → Bool
node_follows Node = true
node_follows End = false

-- the marks that follow a node of k children have been passed, up to e
pub record Passed (k : ℕ) (s t bytes : List ℕ) (i e : ℕ) (goes : Bool) : Type 0 where
  pub to : e ≤ length bytes
  pub is : drop i bytes ≡ passed k s ++ drop e bytes
  pub due : t ≡ due_then k s
  pub more : goes ≡ goes_on k s

-- those that stand are `gone`, up to p, where the mark is due and another byte stands, or none
pub record Missed (k : ℕ) (s bytes : List ℕ) (i p : ℕ) : Type 0 where
  pub gone : List ℕ
  pub mark : ℕ
  pub rest : List ℕ
  pub all : passed k s ≡ gone ++ (mark ∷ rest)
  pub to : p ≤ length bytes
  pub is : drop i bytes ≡ gone ++ drop p bytes
  pub other : byte_at bytes p mark ≡ false

-- why the marks are not passed
abbrev pub NotPassed : ℕ → List ℕ → List ℕ → ℕ → TextError → Type 0
NotPassed k s bytes i (NoNode p) = ⊥
NotPassed k s bytes i (NoMark p) = Missed k s bytes i p
NotPassed k s bytes i (BytesFollow p) = ⊥
NotPassed k s bytes i NoMemory = Unit {0}
