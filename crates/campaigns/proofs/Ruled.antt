-- What a run answers, writes and keeps where a check refuses it.
use Rattle.std.proofs.Common.{◌≡◌, ℕ, Bool, List, length, Some, Err, Option, Result, sym, refl, ap}
use Rattle.spaces.specs.Spaces.{Meaning}
use Rattle.numbering.specs.declared.node.Node.{Node}
use Rattle.numbering.specs.Listings.{listing}
use Rattle.engines.specs.Values.{Rule, value_of_list}
use Rattle.campaigns.specs.declared.campaign.NotRun.{NotRun}
use Rattle.campaigns.specs.declared.campaign.Pending.{Pending}
use Rattle.campaigns.specs.Baselines.{RunsBeside, beside, kept_after}
use Rattle.campaigns.specs.Calls.{Runs, Verdict, ruled, run_over, run_writes}
use Rattle.campaigns.specs.Refusals.{Lent, run_refusal}
use Rattle.campaigns.specs.Verdicts.{by_engine}

module _ (m : Meaning) (lent : Lent) (values : ℕ) (s : Pending) (d : NotRun) (refused : run_refusal m lent values s.n ≡ Some d.why) where
  pub writes_refused : (verdict : Verdict) (buffer : List Node) → buffer ≡ run_writes verdict m lent values s buffer
  writes_refused verdict buffer =
      sym (ap (λ o. run_over o (verdict s.baseline s.number) (listing m s.baseline) (listing m s.number) buffer) refused)

  runs_refused : d.pending ≡ s → (verdict : Verdict) (finds : List ℕ) → Runs verdict m lent values s finds finds (Err d)
  runs_refused same verdict finds =
      (ap (λ o. ruled o (verdict s.baseline s.number) s.counts.differing (length finds)) refused, same, refl)

  pub beside_refused : {V : Type 0} (rule : Rule V) (alike : V → V → Bool) (kept : Option (Result V ℕ)) (finds : List ℕ) (plan : List Node) → d.pending ≡ s
      → RunsBeside rule alike m lent values s kept kept finds finds plan plan (Err d)
  beside_refused rule alike kept finds plan same = record {
    answer = runs_refused same (beside kept rule alike m) finds;
    written = writes_refused (beside kept rule alike m) plan;
    keeping = sym (ap (λ o. kept_after o kept (value_of_list rule (listing m s.baseline))) refused);
    same = λ h. runs_refused same (by_engine rule alike m) finds;
    same_written = λ h. writes_refused (by_engine rule alike m) plan;
    keeps = λ h. h;
  }
