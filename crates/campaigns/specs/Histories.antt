-- The histories of a campaign: it is made, and then any calls follow, each on the state that the one before handed back, over one space and one finds list.
use Rattle.std.specs.Prelude.{ℕ, ◌⊎◌, List, [], ◌∷◌, ◌++◌, take, Ok, Err}
use Rattle.std.proofs.Common.{inl, inr}
use Rattle.spaces.specs.Spaces.{Meaning}
use Rattle.numbering.specs.declared.node.Node.{Node}
use Rattle.campaigns.specs.declared.campaign.Drawn.{Drawn}
use Rattle.campaigns.specs.declared.campaign.NotDrawn.{NotDrawn}
use Rattle.campaigns.specs.declared.campaign.NotRun.{NotRun}
use Rattle.campaigns.specs.declared.campaign.Pending.{Pending}
use Rattle.campaigns.specs.declared.campaign.Ran.{Ran}
use Rattle.campaigns.specs.declared.campaign.Ready.{Ready}
use Rattle.campaigns.specs.declared.counts.Counts.{Counts}
use Rattle.campaigns.specs.declared.outcome.Outcome.{Outcome}
use Rattle.campaigns.specs.declared.outcome.Outcome.TheVariants.{Agreed, Differing, Faulted}
use Rattle.campaigns.specs.declared.refusal.CampaignRefusal.{CampaignRefusal}
use Rattle.campaigns.specs.Calls.{Drew, Made, Runs, Skipped, Verdict}
use Rattle.campaigns.specs.Counting.{no_counts, one_drawn, one_ran, one_skipped}
use Rattle.campaigns.specs.Refusals.{Lent}

-- What a call did. A draw handed back a number, and left a list in the plan buffer.
pub data Event : Type 0 where
  a_draw : ℕ → List Node → Event
  no_draw : CampaignRefusal → Event
  a_run : Outcome → Event
  no_run : CampaignRefusal → Event
  a_skip : Event

-- what happened since the campaign was made, the newest first
abbrev pub Log : Type 0
Log = List Event

-- The calls that took a campaign from the state s₀ and the finds f₀ to a later state and the finds as they then are, and what they did. Each step has the lengths of the buffers that its call was lent, and what the call's contract says of its answer.
pub data Steps (m : Meaning) (verdict : Verdict) (s₀ : Ready ⊎ Pending) (f₀ : List ℕ) : Ready ⊎ Pending → List ℕ → Log → Type 0 where
  still : Steps m verdict s₀ f₀ s₀ f₀ []
  draws :
      (lent : Lent) (old new : List Node) (c : Ready) (d : Drawn) (finds : List ℕ) (log : Log)
      → Steps m verdict s₀ f₀ (inl c) finds log
      → Drew m lent c old new (Ok d)
      → Steps m verdict s₀ f₀ (inr d.pending) finds (a_draw d.number (take d.len new) ∷ log)
  draw_refused :
      (lent : Lent) (old new : List Node) (c : Ready) (d : NotDrawn) (finds : List ℕ) (log : Log)
      → Steps m verdict s₀ f₀ (inl c) finds log
      → Drew m lent c old new (Err d)
      → Steps m verdict s₀ f₀ (inl d.ready) finds (no_draw d.why ∷ log)
  runs :
      (lent : Lent) (values : ℕ) (p : Pending) (d : Ran) (finds finds' : List ℕ) (log : Log)
      → Steps m verdict s₀ f₀ (inr p) finds log
      → Runs verdict m lent values p finds finds' (Ok d)
      → Steps m verdict s₀ f₀ (inl d.ready) finds' (a_run d.outcome ∷ log)
  run_refused :
      (lent : Lent) (values : ℕ) (p : Pending) (d : NotRun) (finds finds' : List ℕ) (log : Log)
      → Steps m verdict s₀ f₀ (inr p) finds log
      → Runs verdict m lent values p finds finds' (Err d)
      → Steps m verdict s₀ f₀ (inr d.pending) finds' (no_run d.why ∷ log)
  skips :
      (p : Pending) (c : Ready) (finds : List ℕ) (log : Log)
      → Steps m verdict s₀ f₀ (inr p) finds log
      → Skipped p c
      → Steps m verdict s₀ f₀ (inl c) finds (a_skip ∷ log)

-- A history: an accepted make, with a finds list of any length and contents, and the calls since.
pub record History (m : Meaning) (verdict : Verdict) (start step baseline : ℕ) (first : List ℕ) (s : Ready ⊎ Pending) (finds : List ℕ) (log : Log) : Type 0 where
  pub tallies : ℕ
  pub ready : Ready
  pub made : Made m tallies start step baseline (Ok ready)
  pub steps : Steps m verdict (inl ready) first s finds log

-- an accepted draw
pub record Draw : Type 0 where
  pub number : ℕ
  pub list : List Node

abbrev pub draw : ℕ → List Node → Draw
draw number list = record { number = number; list = list }

-- the accepted draws of a log, the oldest first
abbrev pub drawn_in : Log → List Draw
drawn_in [] = []
drawn_in (a_draw x list ∷ log) = drawn_in log ++ (draw x list ∷ [])
drawn_in (no_draw e ∷ log) = drawn_in log
drawn_in (a_run o ∷ log) = drawn_in log
drawn_in (no_run e ∷ log) = drawn_in log
drawn_in (a_skip ∷ log) = drawn_in log

-- the number that the last accepted draw handed back
abbrev pub latest : Log → ℕ
latest [] = 0
latest (a_draw x list ∷ log) = x
latest (no_draw e ∷ log) = latest log
latest (a_run o ∷ log) = latest log
latest (no_run e ∷ log) = latest log
latest (a_skip ∷ log) = latest log

-- the numbers whose run answered differing, in the order of the runs
abbrev pub differing_in : Log → List ℕ
differing_in [] = []
differing_in (a_draw x list ∷ log) = differing_in log
differing_in (no_draw e ∷ log) = differing_in log
differing_in (a_run Agreed ∷ log) = differing_in log
differing_in (a_run Differing ∷ log) = differing_in log ++ (latest log ∷ [])
differing_in (a_run (Faulted f) ∷ log) = differing_in log
differing_in (no_run e ∷ log) = differing_in log
differing_in (a_skip ∷ log) = differing_in log

-- how many accepted draws, runs by their outcome, and skips a log has
abbrev pub counted_in : Log → Counts
counted_in [] = no_counts
counted_in (a_draw x list ∷ log) = one_drawn (counted_in log)
counted_in (no_draw e ∷ log) = counted_in log
counted_in (a_run o ∷ log) = one_ran o (counted_in log)
counted_in (no_run e ∷ log) = counted_in log
counted_in (a_skip ∷ log) = one_skipped (counted_in log)
