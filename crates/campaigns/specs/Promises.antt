-- What holds in every history.
use Rattle.std.specs.Prelude.{◌≡◌, ℕ, ◌+◌, ◌<◌, ◌≤◌, true, false, ◌⊎◌, List, ◌∷◌, length, take, drop, is_err, Some, Ok, Err, Result, ◌≢◌}
use Rattle.std.proofs.Common.{inl, inr}
use Rattle.std.specs.List.{AllByRecursion, slice_get}
use Rattle.spaces.specs.Spaces.{Apart, Lawful, Meaning}
use Rattle.numbering.specs.declared.node.Node.{Node}
use Rattle.numbering.specs.Numbers as numbers
use Rattle.numbering.specs.Plans.{Complete}
use Rattle.numbering.specs.Refusals.{largest, plans}
use Rattle.numbering.specs.Tallies.{most_nodes}
use Rattle.numbering.specs.Tallies as tallies
use Rattle.campaigns.specs.declared.campaign.Drawn.{Drawn}
use Rattle.campaigns.specs.declared.campaign.NotDrawn.{NotDrawn}
use Rattle.campaigns.specs.declared.campaign.NotRun.{NotRun}
use Rattle.campaigns.specs.declared.campaign.Pending.{Pending}
use Rattle.campaigns.specs.declared.campaign.Ran.{Ran}
use Rattle.campaigns.specs.declared.campaign.Ready.{Ready}
use Rattle.campaigns.specs.declared.counts.Counts.{Counts}
use Rattle.campaigns.specs.declared.outcome.Outcome.TheVariants.{Differing}
use Rattle.campaigns.specs.declared.refusal.CampaignRefusal.TheVariants.{AllDrawn}
use Rattle.campaigns.specs.Calls.{Drew, Runs, Verdict}
use Rattle.campaigns.specs.Counting.{settled}
use Rattle.campaigns.specs.Divisors.{Exactly}
use Rattle.campaigns.specs.Histories.{Draw, History, Log, counted_in, differing_in, drawn_in, latest, no_draw}
use Rattle.campaigns.specs.Refusals.{Lent}
use Rattle.campaigns.specs.Walks.{walk}

-- the space has goals, none of them too many plans, and no plan is too large
pub record Quiet (m : Meaning) : Type 0 where
  pub some : 0 < m.goals
  pub few : tallies.over m m.goals ≡ false
  pub small : largest m ≤ most_nodes

-- one of the buffers that a draw is lent is short
abbrev pub Short : Meaning → Lent → Type 0
Short m lent = (lent.tallies < m.goals) ⊎ ((lent.work < largest m) ⊎ (lent.plan < largest m))

-- one of the buffers that a run is lent is short
abbrev pub RunShort : Meaning → Lent → ℕ → Type 0
RunShort m lent values = Short m lent ⊎ (values < largest m)

-- every complete plan is among the lists drawn
abbrev pub IsAllDrawn : Meaning → Log → Type 0
IsAllDrawn m log = (list : List Node) → Complete m list → (k : ℕ) × (d : Draw) × (slice_get (drawn_in log) k ≡ Some d) × (d.list ≡ list)

-- a draw from the state is refused exactly when a buffer is short or every complete plan is drawn
abbrev pub DrawsToTheLast : Meaning → Ready ⊎ Pending → Log → Type 0
DrawsToTheLast m (inl c) log =
    (lent : Lent) (old new : List Node) (r : Result Drawn NotDrawn) → Drew m lent c old new r
    → Exactly (is_err r ≡ true) (Short m lent ⊎ IsAllDrawn m log)
DrawsToTheLast m (inr p) log = Unit {0}

-- a draw was refused because every plan is drawn
abbrev pub Finished : Log → Type 0
Finished log = (older : Log) × (log ≡ no_draw AllDrawn ∷ older)

-- a run answers differing
abbrev pub AnswersDiffering : Result Ran NotRun → Type 0
AnswersDiffering (Ok d) = d.outcome ≡ Differing
AnswersDiffering (Err d) = ⊥

-- a run from the state answers differing exactly when no buffer is short, the finds list has an entry D, and the baseline and the plan last drawn differ
abbrev pub TellsDiffering : Verdict → (ℕ → ℕ → Type 0) → Meaning → ℕ → Ready ⊎ Pending → List ℕ → Log → Type 0
TellsDiffering verdict Differ m baseline (inl c) finds log = Unit {0}
TellsDiffering verdict Differ m baseline (inr p) finds log =
    (lent : Lent) (values : ℕ) (finds' : List ℕ) (r : Result Ran NotRun) → Runs verdict m lent values p finds finds' r
    → Exactly (AnswersDiffering r) ((RunShort m lent values → ⊥) × ((counted_in log).differing < length finds) × Differ baseline (latest log))

-- what a campaign tells of its counts
abbrev pub told_counts : Ready ⊎ Pending → Counts
told_counts (inl c) = c.counts
told_counts (inr p) = p.counts

-- a plan is pending, or not
abbrev pub waiting : Ready ⊎ Pending → ℕ
waiting (inl c) = 0
waiting (inr p) = 1

-- What holds of a history that has come to the state s, the finds and the log. `Differ` says of two numbers, the baseline's first, that both plans have results which the engine does not call the same.
pub record Promise (m : Meaning) (verdict : Verdict) (Differ : ℕ → ℕ → Type 0) (start step baseline : ℕ) (first : List ℕ) (s : Ready ⊎ Pending) (finds : List ℕ) (log : Log) : Type 0 where
  -- accepted draw number k, from 0, handed back the number (start + k × step) mod N and wrote the list of the complete plan that has it
  pub follows : (k : ℕ) (d : Draw) → slice_get (drawn_in log) k ≡ Some d → (d.number ≡ walk (plans m) start step k) × numbers.Numbers m d.list d.number
  -- no number and no list is drawn twice
  pub numbers_once : (j k : ℕ) (d e : Draw) → slice_get (drawn_in log) j ≡ Some d → slice_get (drawn_in log) k ≡ Some e → d.number ≡ e.number → j ≡ k
  pub lists_once : (j k : ℕ) (d e : Draw) → slice_get (drawn_in log) j ≡ Some d → slice_get (drawn_in log) k ≡ Some e → d.list ≡ e.list → j ≡ k
  -- a draw is refused exactly when it must be
  pub to_the_last : DrawsToTheLast m s log
  -- where it is refused because every plan is drawn, every complete plan is
  pub whole : Finished log → IsAllDrawn m log
  -- a run answers differing exactly when it must
  pub tells : TellsDiffering verdict Differ m baseline s finds log
  -- the first D entries of the finds are the numbers whose run answered differing, in the order of the runs; the others are as they were
  pub found : take (counted_in log).differing finds ≡ differing_in log
  pub found_long : length (differing_in log) ≡ (counted_in log).differing
  pub beyond : drop (counted_in log).differing finds ≡ drop (counted_in log).differing first
  -- each once, and never the baseline's
  pub found_once : Apart (differing_in log)
  pub never_baseline : AllByRecursion (λ x. x ≢ baseline) (differing_in log)
  -- the counts are those of the log, and each plan drawn is settled once, but for the one that waits
  pub counts : told_counts s ≡ counted_in log
  pub balance : (told_counts s).drawn ≡ settled (told_counts s) + waiting s

-- the promise holds in every history over the space and the verdict
abbrev pub Promised : Meaning → Verdict → (ℕ → ℕ → Type 0) → Type 0
Promised m verdict Differ =
    (start step baseline : ℕ) (first : List ℕ) (s : Ready ⊎ Pending) (finds : List ℕ) (log : Log)
    → History m verdict start step baseline first s finds log
    → Promise m verdict Differ start step baseline first s finds log

-- no plan differs from itself
abbrev pub Steady : Verdict → Type 0
Steady verdict = (x : ℕ) → verdict x x ≢ Ok Differing

-- over every lawful, quiet space and every verdict that calls no plan different from itself
abbrev pub EveryHistory : Type 0
EveryHistory =
    (m : Meaning) → Lawful m → Quiet m → (verdict : Verdict) → Steady verdict
    → Promised m verdict (λ base x. verdict base x ≡ Ok Differing)
