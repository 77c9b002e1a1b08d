-- What unrank and rank check, and what they answer.
use Rattle.std.specs.Prelude.{◌≡◌, ℕ, Bool, List, [], ◌∷◌, ◌++◌, length, drop, Some, None, Ok, Err, Option, Result, nat_le, nat_lt}
use Rattle.spaces.specs.Spaces.{Meaning}
use Rattle.numbering.specs.declared.node.Node.{Node}
use Rattle.numbering.specs.declared.refusal.Refusal.{Refusal}
use Rattle.numbering.specs.declared.refusal.Refusal.TheVariants.{NoSuchPlan, PlanShort, WorkShort}
use Rattle.numbering.specs.Beginnings.{Misfit}
use Rattle.numbering.specs.Numbers.{Numbers}
use Rattle.numbering.specs.Refusals.{count_checks, largest, plans}

-- what rank checks, where its tally buffer has `room` entries and its work buffer `work`
abbrev pub rank_checks : Meaning → ℕ → ℕ → List (Bool × Refusal)
rank_checks m room work = count_checks m room ++ ((nat_lt work (largest m), WorkShort) ∷ [])

-- what every call that writes plans checks, where its plan buffer has `plan` entries
abbrev pub write_checks : Meaning → ℕ → ℕ → ℕ → List (Bool × Refusal)
write_checks m room work plan = rank_checks m room work ++ ((nat_lt plan (largest m), PlanShort) ∷ [])

abbrev pub unrank_checks : Meaning → ℕ → ℕ → ℕ → ℕ → List (Bool × Refusal)
unrank_checks m number room work plan = write_checks m room work plan ++ ((nat_le (plans m) number, NoSuchPlan) ∷ [])

-- unrank's answer and its plan buffer: the first refusal, and the buffer as it was; else the length of the list that has the number, and the list from entry 0 on
abbrev pub Unranked : Meaning → Option Refusal → ℕ → Result ℕ Refusal → List Node → List Node → Type 0
Unranked m (Some e) number r old new = (r ≡ Err e) × (new ≡ old)
Unranked m None number r old new = (list : List Node) × Numbers m list number × (r ≡ Ok (length list)) × (new ≡ list ++ drop (length list) old)

-- no other answer, and no other buffer, is right
abbrev pub UnrankedOnly : Meaning → Option Refusal → ℕ → Result ℕ Refusal → List Node → List Node → Type 0
UnrankedOnly m o number r old new = (other : Result ℕ Refusal) (buffer : List Node) → Unranked m o number other old buffer → (other ≡ r) × (buffer ≡ new)

-- rank's answer past its checks: n exactly where the list is that of a complete plan with the number n, and else why it is none
pub record Judged (m : Meaning) (list : List Node) (r : Result ℕ Refusal) : Type 0 where
  pub accepted : (n : ℕ) → r ≡ Ok n → Numbers m list n
  pub complete : (n : ℕ) → Numbers m list n → r ≡ Ok n
  pub refused : (e : Refusal) → r ≡ Err e → Misfit m list e

abbrev pub Ranked : Meaning → Option Refusal → List Node → Result ℕ Refusal → Type 0
Ranked m (Some e) list r = r ≡ Err e
Ranked m None list r = Judged m list r

-- no other answer is right
abbrev pub RankedOnly : Meaning → Option Refusal → List Node → Result ℕ Refusal → Type 0
RankedOnly m o list r = (other : Result ℕ Refusal) → Ranked m o list other → other ≡ r
