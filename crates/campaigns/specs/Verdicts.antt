-- What an engine tells of two plans of a space.
use Rattle.std.specs.Prelude.{◌≡◌, ℕ, Bool, false, cond, Some, Ok, Err, Result}
use Rattle.spaces.specs.Spaces.{Lawful, Meaning}
use Rattle.numbering.specs.Listings.{listing}
use Rattle.numbering.specs.Plans.{Tree, number}
use Rattle.engines.specs.Values.{Rule, value, value_of_list}
use Rattle.campaigns.specs.declared.outcome.Outcome.{Outcome}
use Rattle.campaigns.specs.declared.outcome.Outcome.TheVariants.{Agreed, Differing, Faulted}
use Rattle.campaigns.specs.Calls.{Verdict}
use Rattle.campaigns.specs.Promises.{Promised, Quiet}

-- the outcome of two plans from their results, the baseline's first, or the baseline's fault
abbrev pub told : {V : Type 0} → (V → V → Bool) → Result V ℕ → Result V ℕ → Result Outcome ℕ
told alike (Err f) other = Err f
told alike (Ok a) (Err f) = Ok (Faulted f)
told alike (Ok a) (Ok b) = Ok (cond (alike a b) Agreed Differing)

-- the verdict of an engine on the plans of a space
abbrev pub by_engine : {V : Type 0} → Rule V → (V → V → Bool) → Meaning → Verdict
by_engine rule alike m base x = told alike (value_of_list rule (listing m base)) (value_of_list rule (listing m x))

-- the complete plan with the number x has the result v
abbrev pub ResultsIn : {V : Type 0} → Rule V → Meaning → ℕ → V → Type 0
ResultsIn rule m x v = (t : Tree m (Some m.root)) × (number t ≡ x) × (value rule t ≡ Ok v)

-- both plans have results, and the engine does not call them the same
pub record ResultsDiffer {V : Type 0} (rule : Rule V) (alike : V → V → Bool) (m : Meaning) (base x : ℕ) : Type 0 where
  pub baseline_result : V
  pub other_result : V
  pub baseline_has : ResultsIn rule m base baseline_result
  pub other_has : ResultsIn rule m x other_result
  pub not_alike : alike baseline_result other_result ≡ false

-- every history over a lawful, quiet space with this engine keeps the promise
abbrev pub EveryHistoryWith : {V : Type 0} → Rule V → (V → V → Bool) → Type 0
EveryHistoryWith rule alike =
    (m : Meaning) → Lawful m → Quiet m → Promised m (by_engine rule alike m) (ResultsDiffer rule alike m)
