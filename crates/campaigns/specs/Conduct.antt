-- What it is to conduct a campaign: plans are drawn and run, and the history goes on.
use Rattle.std.specs.Prelude.{◌≡◌, ℕ, ◌<◌, ◌⊎◌, List, [], ◌∷◌, ◌++◌, length, Ok, Err, Result}
use Rattle.std.proofs.Common.{inl, inr}
use Rattle.spaces.specs.Spaces.{Meaning}
use Rattle.numbering.specs.declared.node.Node.{Node}
use Rattle.campaigns.specs.declared.campaign.Pending.{Pending}
use Rattle.campaigns.specs.declared.campaign.Ready.{Ready}
use Rattle.campaigns.specs.declared.conduct.Stopped.{Stopped}
use Rattle.campaigns.specs.declared.conduct.Stopped.TheVariants.{AtDraw, AtRun}
use Rattle.campaigns.specs.declared.outcome.Outcome.{Outcome}
use Rattle.campaigns.specs.declared.refusal.CampaignRefusal.{CampaignRefusal}
use Rattle.campaigns.specs.Calls.{Verdict}
use Rattle.campaigns.specs.Histories.{History, Log, Steps, a_draw, a_run, drawn_in, no_draw, no_run}

-- a history goes on by the calls that follow
abbrev pub HistoriesGoOn : Meaning → Verdict → Type 0
HistoriesGoOn m verdict =
    (start step baseline : ℕ) (first : List ℕ) (s t : Ready ⊎ Pending) (finds finds' : List ℕ) (log news : Log)
    → History m verdict start step baseline first s finds log
    → Steps m verdict s finds t finds' news
    → History m verdict start step baseline first t finds' (news ++ log)

-- plans drawn, and each run at once; the newest event first
pub data Turns : Log → Type 0 where
  none : Turns []
  turn : {log : Log} (x : ℕ) (list : List Node) (o : Outcome) → Turns log → Turns (a_run o ∷ (a_draw x list ∷ log))

-- the state that a stopped campaign is in
abbrev pub stopped_in : Stopped → Ready ⊎ Pending
stopped_in (AtDraw d) = inl d.ready
stopped_in (AtRun d) = inr d.pending

-- why it is
abbrev pub why_stopped : Stopped → CampaignRefusal
why_stopped (AtDraw d) = d.why
why_stopped (AtRun d) = d.why

-- some plans were drawn and run, fewer than asked for, and then a draw or a run was refused
abbrev pub Stops : ℕ → Stopped → Log → Type 0
Stops limit (AtDraw d) news =
    (older : Log) × (news ≡ no_draw d.why ∷ older) × Turns older × (length (drawn_in older) < limit)
Stops limit (AtRun d) news =
    (older : Log) × (x : ℕ) × (list : List Node) × (news ≡ no_run d.why ∷ (a_draw x list ∷ older)) × Turns older × (length (drawn_in older) < limit)

-- A campaign that is to draw and run so many plans does, and is ready, or stops at a refusal.
abbrev pub Conducted : Meaning → Verdict → ℕ → Ready → List ℕ → List ℕ → Result Ready Stopped → Type 0
Conducted m verdict limit c finds finds' (Ok d) =
    (news : Log) × Steps m verdict (inl c) finds (inl d) finds' news × Turns news × (length (drawn_in news) ≡ limit)
Conducted m verdict limit c finds finds' (Err e) =
    (news : Log) × Steps m verdict (inl c) finds (stopped_in e) finds' news × Stops limit e news
