-- The lines of the plans that have given numbers, and what the calls that write them check and answer.
use Rattle.std.specs.Prelude.{◌≡◌, ℕ, ◌≤◌, Bool, false, ◌||◌, List, [], ◌∷◌, ◌++◌, length, Some, None, Err, Option, Result, nat_le}
use Rattle.spaces.specs.Spaces.{Meaning}
use Rattle.numbering.specs.declared.node.Node.{Node}
use Rattle.numbering.specs.declared.refusal.Refusal.{Refusal}
use Rattle.numbering.specs.declared.refusal.Refusal.TheVariants.{NoSuchPlan}
use Rattle.numbering.specs.Plans.{Tree, number}
use Rattle.numbering.specs.Ranks.{write_checks}
use Rattle.numbering.specs.Refusals.{largest, plans}
use Rattle.texts.specs.declared.writer.Writer.{Writer}
use Rattle.texts.specs.Texts.{Spelled, line, tree_text}
use Rattle.texts.specs.Writers.{Writes}

-- the bytes are the line of the complete plan that has the number x
pub record IsLine (m : Meaning) (x : ℕ) (bytes : List ℕ) : Type 0 where
  pub plan : Tree m (Some m.root)
  pub numbered : number plan ≡ x
  pub same : bytes ≡ line x (tree_text plan)

-- the bytes are the lines of the complete plans that have the numbers, one for each and in their order
pub data AreLines (m : Meaning) : List ℕ → List ℕ → Type 0 where
  none : AreLines m [] []
  more : {x : ℕ} {xs bytes rest : List ℕ} → IsLine m x bytes → AreLines m xs rest → AreLines m (x ∷ xs) (bytes ++ rest)

-- one of the numbers is not below n
abbrev pub any_past : ℕ → List ℕ → Bool
any_past n [] = false
any_past n (x ∷ xs) = nat_le n x || any_past n xs

-- what a report checks before it asks for room in the text buffer: the tally, work and plan buffers have `room`, `work` and `plan` entries
abbrev pub report_checks : Meaning → List ℕ → ℕ → ℕ → ℕ → List (Bool × Refusal)
report_checks m numbers room work plan = write_checks m room work plan ++ ((any_past (plans m) numbers, NoSuchPlan) ∷ [])

-- a report's answer and its text buffer: the first refusal, and the buffer as it was; else the lines are spelled
abbrev pub Reported : Meaning → Option Refusal → List ℕ → Result ℕ Refusal → List ℕ → List ℕ → Type 0
Reported m (Some e) numbers r old new = (r ≡ Err e) × (new ≡ old)
Reported m None numbers r old new = (bytes : List ℕ) × AreLines m numbers bytes × Spelled bytes r old new

-- the same for one line
abbrev pub Lined : Meaning → Option Refusal → ℕ → Result ℕ Refusal → List ℕ → List ℕ → Type 0
Lined m (Some e) x r old new = (r ≡ Err e) × (new ≡ old)
Lined m None x r old new = (bytes : List ℕ) × IsLine m x bytes × Spelled bytes r old new

-- the plan buffer is as it was where a check applies that comes before the plans are written; else it may hold anything
abbrev pub Untouched : Option Refusal → List Node → List Node → Type 0
Untouched (Some e) old new = new ≡ old
Untouched None old new = Unit {0}

-- buffers in which every plan of m can be written
pub record HasRoom (m : Meaning) (work plan : ℕ) : Type 0 where
  pub work_room : largest m ≤ work
  pub plan_room : largest m ≤ plan

-- r is how long the line of the number x is
pub record Measured (m : Meaning) (x r : ℕ) : Type 0 where
  pub bytes : List ℕ
  pub line : IsLine m x bytes
  pub long : r ≡ length bytes
  pub few : r ≤ 15382

-- the line of the number x has been written
pub record Put (m : Meaning) (x : ℕ) (old new : Writer) : Type 0 where
  pub bytes : List ℕ
  pub line : IsLine m x bytes
  pub writes : Writes old new bytes
