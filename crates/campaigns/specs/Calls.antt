-- What the calls on a campaign answer, which state they hand back, and what they leave in the buffers.
use Rattle.std.specs.Prelude.{◌≡◌, ℕ, cond, List, ◌++◌, length, drop, Some, None, Ok, Err, Option, Result, nat_lt, slice_set}
use Rattle.spaces.specs.Spaces.{Meaning}
use Rattle.numbering.specs.declared.node.Node.{Node}
use Rattle.numbering.specs.Listings.{listing}
use Rattle.numbering.specs.Refusals.{plans}
use Rattle.campaigns.specs.declared.campaign.Drawn.{Drawn}
use Rattle.campaigns.specs.declared.campaign.NotDrawn.{NotDrawn}
use Rattle.campaigns.specs.declared.campaign.NotRun.{NotRun}
use Rattle.campaigns.specs.declared.campaign.Pending.{Pending}
use Rattle.campaigns.specs.declared.campaign.Ran.{Ran}
use Rattle.campaigns.specs.declared.campaign.Ready.{Ready}
use Rattle.campaigns.specs.declared.counts.Counts.{Counts}
use Rattle.campaigns.specs.declared.outcome.Outcome.{Outcome}
use Rattle.campaigns.specs.declared.outcome.Outcome.TheVariants.{Agreed, Differing, Faulted}
use Rattle.campaigns.specs.declared.refusal.CampaignRefusal.{CampaignRefusal}
use Rattle.campaigns.specs.declared.refusal.CampaignRefusal.TheVariants.{BaselineFaults, FindsShort}
use Rattle.campaigns.specs.Counting.{no_counts, one_drawn, one_ran, one_skipped}
use Rattle.campaigns.specs.Refusals.{Lent, draw_refusal, first_reason, make_checks, make_refusal, run_refusal}
use Rattle.campaigns.specs.Walks.{walk}

-- the numbers that a campaign holds, without what is known of them
pub record Numbers : Type 0 where
  pub n : ℕ
  pub start : ℕ
  pub step : ℕ
  pub baseline : ℕ
  pub counts : Counts

abbrev pub of_ready : Ready → Numbers
of_ready c = record { n = c.n; start = c.start; step = c.step; baseline = c.baseline; counts = c.counts }

abbrev pub of_pending : Pending → Numbers
of_pending c = record { n = c.n; start = c.start; step = c.step; baseline = c.baseline; counts = c.counts }

-- the same campaign with other counts
abbrev pub counting : Numbers → Counts → Numbers
counting s c = record { n = s.n; start = s.start; step = s.step; baseline = s.baseline; counts = c }

abbrev pub fresh : ℕ → ℕ → ℕ → ℕ → Numbers
fresh n start step baseline = record { n = n; start = start; step = step; baseline = baseline; counts = no_counts }

-- the number that the next draw concerns
abbrev pub upcoming : Numbers → ℕ
upcoming s = walk s.n s.start s.step s.counts.drawn

-- what a call's checks come to
abbrev pub passed : Option CampaignRefusal → Result (Unit {0}) CampaignRefusal
passed None = Ok tt
passed (Some e) = Err e

-- nodes over the beginning of a buffer
abbrev pub over : List Node → List Node → List Node
over nodes buffer = nodes ++ drop (length nodes) buffer

-- a campaign of n plans begins with none drawn, or the first check refuses it
abbrev pub Begun : ℕ → ℕ → ℕ → ℕ → Result Ready CampaignRefusal → Type 0
Begun n start step baseline (Ok c) =
    (first_reason (make_checks n start step baseline) ≡ None)
    × (of_ready c ≡ fresh n start step baseline)
Begun n start step baseline (Err e) = first_reason (make_checks n start step baseline) ≡ Some e

-- Make answers a ready campaign of as many plans as the space has, or the first refusal.
abbrev pub Made : Meaning → ℕ → ℕ → ℕ → ℕ → Result Ready CampaignRefusal → Type 0
Made m tallies start step baseline (Ok c) =
    (make_refusal m tallies start step baseline ≡ None)
    × (of_ready c ≡ fresh (plans m) start step baseline)
Made m tallies start step baseline (Err e) = make_refusal m tallies start step baseline ≡ Some e

-- the upcoming plan is drawn: its list stands in the plan buffer (old before, new after)
abbrev pub Next : Meaning → Ready → List Node → List Node → Drawn → Type 0
Next m s old new d =
    (of_pending d.pending ≡ counting (of_ready s) (one_drawn s.counts))
    × (d.pending.number ≡ d.number)
    × (d.number ≡ upcoming (of_ready s))
    × (d.len ≡ length (listing m d.number))
    × (new ≡ over (listing m d.number) old)

-- Draw answers the upcoming plan's number and length, or the first refusal with the state and the buffer as they were.
abbrev pub Drew : Meaning → Lent → Ready → List Node → List Node → Result Drawn NotDrawn → Type 0
Drew m lent s old new (Ok d) = (draw_refusal m lent s.n s.counts.drawn ≡ None) × Next m s old new d
Drew m lent s old new (Err d) =
    (draw_refusal m lent s.n s.counts.drawn ≡ Some d.why)
    × (d.ready ≡ s)
    × (new ≡ old)

-- Skip hands back the campaign with one more skipped.
abbrev pub Skipped : Pending → Ready → Type 0
Skipped s c = of_ready c ≡ counting (of_pending s) (one_skipped s.counts)

-- What two plans tell, by their numbers, the baseline's first: an outcome, or the baseline's fault.
abbrev pub Verdict : Type 0
Verdict = ℕ → ℕ → Result Outcome ℕ

-- an outcome stands unless it differs and the finds list has no entry d
abbrev pub noted : Outcome → ℕ → ℕ → Result Outcome CampaignRefusal
noted Agreed d room = Ok Agreed
noted Differing d room = cond (nat_lt d room) (Ok Differing) (Err FindsShort)
noted (Faulted f) d room = Ok (Faulted f)

abbrev pub concluded : Result Outcome ℕ → ℕ → ℕ → Result Outcome CampaignRefusal
concluded (Err f) d room = Err (BaselineFaults f)
concluded (Ok o) d room = noted o d room

-- what a run comes to: the first refusal, or what the two plans tell
abbrev pub ruled : Option CampaignRefusal → Result Outcome ℕ → ℕ → ℕ → Result Outcome CampaignRefusal
ruled (Some e) told d room = Err e
ruled None told d room = concluded told d room

abbrev pub ruling : Verdict → Meaning → Lent → ℕ → ℕ → Pending → Result Outcome CampaignRefusal
ruling verdict m lent values room s =
    ruled (run_refusal m lent values s.n) (verdict s.baseline s.number) s.counts.differing room

-- the finds list after an outcome: a differing plan's number stands at index d
abbrev pub finds_after : Outcome → ℕ → ℕ → List ℕ → List ℕ
finds_after Agreed d x finds = finds
finds_after Differing d x finds = slice_set finds d x
finds_after (Faulted f) d x finds = finds

-- what the two plans told, settled: an outcome is counted, and a differing plan is noted, unless the baseline has a fault or the finds list is short
abbrev pub Settled : Result Outcome ℕ → Pending → List ℕ → List ℕ → Result Ran NotRun → Type 0
Settled told s old new (Ok d) =
    (concluded told s.counts.differing (length old) ≡ Ok d.outcome)
    × (of_ready d.ready ≡ counting (of_pending s) (one_ran d.outcome s.counts))
    × (new ≡ finds_after d.outcome s.counts.differing s.number old)
Settled told s old new (Err d) =
    (concluded told s.counts.differing (length old) ≡ Err d.why)
    × (d.pending ≡ s)
    × (new ≡ old)

-- Run answers an outcome and counts it, and notes a differing plan in the finds list (old before, new after), or a refusal with the state and the list as they were.
abbrev pub Runs : Verdict → Meaning → Lent → ℕ → Pending → List ℕ → List ℕ → Result Ran NotRun → Type 0
Runs verdict m lent values s old new (Ok d) =
    (ruling verdict m lent values (length old) s ≡ Ok d.outcome)
    × (of_ready d.ready ≡ counting (of_pending s) (one_ran d.outcome s.counts))
    × (new ≡ finds_after d.outcome s.counts.differing s.number old)
Runs verdict m lent values s old new (Err d) =
    (ruling verdict m lent values (length old) s ≡ Err d.why)
    × (d.pending ≡ s)
    × (new ≡ old)

-- the plan buffer after the two plans were worked out: the baseline's list, and over it the other's unless the baseline has a fault
abbrev pub both_over : Result Outcome ℕ → List Node → List Node → List Node → List Node
both_over (Err f) base other buffer = over base buffer
both_over (Ok o) base other buffer = over other (over base buffer)

-- the plan buffer after a run, which leaves it alone where a check refuses
abbrev pub run_over : Option CampaignRefusal → Result Outcome ℕ → List Node → List Node → List Node → List Node
run_over (Some e) told base other buffer = buffer
run_over None told base other buffer = both_over told base other buffer

abbrev pub run_writes : Verdict → Meaning → Lent → ℕ → Pending → List Node → List Node
run_writes verdict m lent values s buffer =
    run_over (run_refusal m lent values s.n) (verdict s.baseline s.number) (listing m s.baseline) (listing m s.number) buffer
