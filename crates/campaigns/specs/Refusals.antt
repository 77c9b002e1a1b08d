-- The refusals of calls on a campaign: their numbers, and which is the first that applies.
use Rattle.std.specs.Prelude.{◌≡◌, ℕ, ◌≤◌, Bool, false, cond, not, ◌||◌, List, [], ◌∷◌, Some, None, Option, ◌==◌, nat_le, nat_lt}
use Rattle.spaces.specs.Spaces.{Meaning}
use Rattle.numbering.specs.declared.refusal.Refusal.{Refusal}
use Rattle.numbering.specs.Ranks.{write_checks}
use Rattle.numbering.specs.Refusals.{count_checks, first_of, largest, plans}
use Rattle.numbering.specs.Refusals as calls
use Rattle.campaigns.specs.declared.refusal.CampaignRefusal.{CampaignRefusal}
use Rattle.campaigns.specs.declared.refusal.CampaignRefusal.TheVariants.{AllDrawn, BadBaseline, BadStart, BadStep, BaselineFaults, Call, FindsShort, OtherSpace, ValuesShort}
use Rattle.campaigns.specs.Divisors.{Coprime, Exactly, shares}

abbrev pub number : CampaignRefusal → ℕ
number (Call e) = calls.number e
number ValuesShort = 26
number OtherSpace = 27
number AllDrawn = 28
number (BaselineFaults f) = 29
number FindsShort = 30
number BadStart = 45
number BadBaseline = 46
number BadStep = 47

-- the first refusal of a table whose test applies
abbrev pub first_reason : List (Bool × CampaignRefusal) → Option CampaignRefusal
first_reason [] = None
first_reason (x ∷ rest) = cond x.0 (Some x.1) (first_reason rest)

-- what is wrong with the space or its buffers comes before the campaign's own refusals
abbrev pub space_first : Option Refusal → List (Bool × CampaignRefusal) → Option CampaignRefusal
space_first (Some e) own = Some (Call e)
space_first None own = first_reason own

-- how many entries the buffers have that a call is lent
pub record Lent : Type 0 where
  pub tallies : ℕ
  pub work : ℕ
  pub plan : ℕ

abbrev pub lent_of : ℕ → ℕ → ℕ → Lent
lent_of tallies work plan = record { tallies = tallies; work = work; plan = plan }

-- a step is 1 to n, and no number above 1 divides both it and n
abbrev pub bad_step : ℕ → ℕ → Bool
bad_step n step = step == 0 || (nat_lt n step || shares step n n)

-- the rule of the step, said without a computation
abbrev pub StepRule : Type 0
StepRule = (n step : ℕ) → Exactly (bad_step n step ≡ false) ((1 ≤ step) × (step ≤ n) × Coprime step n)

-- why a campaign of n plans is not made
abbrev pub make_checks : ℕ → ℕ → ℕ → ℕ → List (Bool × CampaignRefusal)
make_checks n start step baseline = (nat_le n start, BadStart) ∷ ((nat_le n baseline, BadBaseline) ∷ ((bad_step n step, BadStep) ∷ []))

abbrev pub make_refusal : Meaning → ℕ → ℕ → ℕ → ℕ → Option CampaignRefusal
make_refusal m tallies start step baseline = space_first (first_of (count_checks m tallies)) (make_checks (plans m) start step baseline)

-- why a campaign of n plans, of which some are drawn, draws none from a space of N plans
abbrev pub draw_checks : ℕ → ℕ → ℕ → List (Bool × CampaignRefusal)
draw_checks N n drawn = (not (N == n), OtherSpace) ∷ (((drawn == n), AllDrawn) ∷ [])

abbrev pub draw_refusal : Meaning → Lent → ℕ → ℕ → Option CampaignRefusal
draw_refusal m lent n drawn = space_first (first_of (write_checks m lent.tallies lent.work lent.plan)) (draw_checks (plans m) n drawn)

-- why a campaign of n plans works out none of a space of N plans, the largest of Z nodes, where the values buffer has so many entries
abbrev pub run_checks : ℕ → ℕ → ℕ → ℕ → List (Bool × CampaignRefusal)
run_checks N Z values n = (nat_lt values Z, ValuesShort) ∷ ((not (N == n), OtherSpace) ∷ [])

abbrev pub run_refusal : Meaning → Lent → ℕ → ℕ → Option CampaignRefusal
run_refusal m lent values n = space_first (first_of (write_checks m lent.tallies lent.work lent.plan)) (run_checks (plans m) (largest m) values n)
