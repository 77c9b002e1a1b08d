-- The baseline's result, which a campaign over a prepared space keeps once it is worked out.
use Rattle.std.specs.Prelude.{◌≡◌, ℕ, Bool, List, Some, None, Option, Result}
use Rattle.spaces.specs.Spaces.{Meaning}
use Rattle.numbering.specs.declared.node.Node.{Node}
use Rattle.numbering.specs.Listings.{listing}
use Rattle.engines.specs.Values.{Rule, value_of_list}
use Rattle.campaigns.specs.declared.campaign.NotRun.{NotRun}
use Rattle.campaigns.specs.declared.campaign.Pending.{Pending}
use Rattle.campaigns.specs.declared.campaign.Ran.{Ran}
use Rattle.campaigns.specs.declared.refusal.CampaignRefusal.{CampaignRefusal}
use Rattle.campaigns.specs.Calls.{Runs, Verdict, run_writes}
use Rattle.campaigns.specs.Refusals.{Lent, run_refusal}
use Rattle.campaigns.specs.Verdicts.{by_engine, told}

-- what is kept, or, where nothing is, what the baseline comes to
abbrev pub expected : {V : Type 0} → Option (Result V ℕ) → Result V ℕ → Result V ℕ
expected None worked = worked
expected (Some kept) worked = kept

-- the verdict of an engine on the plans of a space beside the result that is kept
abbrev pub beside : {V : Type 0} → Option (Result V ℕ) → Rule V → (V → V → Bool) → Meaning → Verdict
beside kept rule alike m base x = told alike (expected kept (value_of_list rule (listing m base))) (value_of_list rule (listing m x))

-- what is kept, if anything is, is what the plan with the number `base` comes to
abbrev pub Keeps : {V : Type 0} → Rule V → Meaning → ℕ → Option (Result V ℕ) → Type 0
Keeps rule m base None = Unit {0}
Keeps rule m base (Some kept) = kept ≡ value_of_list rule (listing m base)

-- what is kept after a run: the same where a check refuses it
abbrev pub kept_after : {V : Type 0} → Option CampaignRefusal → Option (Result V ℕ) → Result V ℕ → Option (Result V ℕ)
kept_after (Some e) kept worked = kept
kept_after None kept worked = Some (expected kept worked)

-- What a run beside a kept baseline answers, and leaves in the finds, in the plan buffer and of what is kept (each old, then new).
pub record RunsBeside {V : Type 0} (rule : Rule V) (alike : V → V → Bool) (m : Meaning) (lent : Lent) (values : ℕ) (s : Pending)
    (kept kept' : Option (Result V ℕ)) (finds finds' : List ℕ) (plan plan' : List Node) (r : Result Ran NotRun) : Type 0 where
  pub answer : Runs (beside kept rule alike m) m lent values s finds finds' r
  pub written : plan' ≡ run_writes (beside kept rule alike m) m lent values s plan
  pub keeping : kept' ≡ kept_after (run_refusal m lent values s.n) kept (value_of_list rule (listing m s.baseline))
  -- where nothing is kept yet, or what the campaign's baseline comes to, the answer and the buffer are those of a run that works the baseline out; and it stays so
  pub same : Keeps rule m s.baseline kept → Runs (by_engine rule alike m) m lent values s finds finds' r
  pub same_written : Keeps rule m s.baseline kept → plan' ≡ run_writes (by_engine rule alike m) m lent values s plan
  pub keeps : Keeps rule m s.baseline kept → Keeps rule m s.baseline kept'
