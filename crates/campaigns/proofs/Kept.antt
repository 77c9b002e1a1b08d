-- The promises, from what is kept along a history.
use Rattle.std.proofs.Common.{◌≡◌, ℕ, ◌+◌, ◌*◌, ◌<◌, true, false, ◌⊎◌, List, ◌∷◌, length, take, drop, is_err, Some, Ok, Err, Result, sym, refl, ap, ◌∙◌, inl, inr, ⊎_elim, mod-lt, arith}
use mathlib.Core.Path.{subst⁻¹}
use native.Mathlib.Decide.{dec_lt}
use Rattle.std.specs.List.{slice_get}
use Rattle.spaces.specs.Spaces.{Lawful, Meaning}
use Rattle.spaces.specs.Places.{some_below, some_inj}
use Rattle.numbering.specs.declared.node.Node.{Node}
use Rattle.numbering.specs.Listings.{listing}
use Rattle.numbering.specs.Numbers as numbers
use Rattle.numbering.specs.Plans.{number}
use Rattle.numbering.specs.Refusals.{plans}
use Rattle.numbering.proofs.Listings.{listing_of}
use Rattle.numbering.proofs.Trees.{number_below}
use Rattle.campaigns.specs.declared.campaign.Drawn.{Drawn}
use Rattle.campaigns.specs.declared.campaign.NotDrawn.{NotDrawn}
use Rattle.campaigns.specs.declared.campaign.NotRun.{NotRun}
use Rattle.campaigns.specs.declared.campaign.Pending.{Pending}
use Rattle.campaigns.specs.declared.campaign.Ran.{Ran}
use Rattle.campaigns.specs.declared.campaign.Ready.{Ready}
use Rattle.campaigns.specs.declared.counts.Counts.{Counts}
use Rattle.campaigns.specs.declared.outcome.Outcome.TheVariants.{Differing}
use Rattle.campaigns.specs.declared.refusal.CampaignRefusal.TheVariants.{AllDrawn}
use Rattle.campaigns.specs.Calls.{Drew, Made, Runs, Verdict, of_pending, of_ready, ruling}
use Rattle.campaigns.specs.Counting.{settled}
use Rattle.campaigns.specs.Divisors.{Exactly}
use Rattle.campaigns.specs.Histories.{Draw, Event, Log, Steps, counted_in, draw_refused, drawn_in, draws, latest, run_refused, runs, skips, still}
use Rattle.campaigns.specs.Promises.{IsAllDrawn, AnswersDiffering, DrawsToTheLast, EveryHistory, Finished, Promised, Quiet, RunShort, Short, Steady, TellsDiffering, told_counts, waiting}
use Rattle.campaigns.specs.Refusals.{Lent}
use Rattle.campaigns.specs.Walks.{walk}
use Rattle.campaigns.proofs.Checks.{accepted_long, accepted_more, differing_exactly, refused_all, refused_done, writes_or_short}
use Rattle.campaigns.proofs.Listed.{listing_complete, listing_numbers, same_listing}
use Rattle.campaigns.proofs.Pasts.{At, Last, baseline_below, draw_at, latest_below, of, past}

module _ (m : Meaning) (law : Lawful m) (quiet : Quiet m) (log : Log) {start step baseline : ℕ} {first finds : List ℕ} where
  module _ (s : Ready ⊎ Pending) (i : At m start step baseline first (of s) finds log) (some : 0 < plans m) where
    step_below : (k : ℕ) → walk (plans m) start step k < plans m
    step_below k = mod-lt (start + k * step) some

    place : (k : ℕ) (d : Draw) → slice_get (drawn_in log) k ≡ Some d → k < (of s).counts.drawn
    place k d e = omega (arith, some_below (drawn_in log) k d e, i.long)

    -- draw number k is the one that the walk calls for
    is_at : (k : ℕ) (d : Draw) → slice_get (drawn_in log) k ≡ Some d → d ≡ draw_at m start step k
    is_at k d e = some_inj (sym e ∙ i.drawn_is k (place k d e))

    follows : (k : ℕ) (d : Draw) → slice_get (drawn_in log) k ≡ Some d → (d.number ≡ walk (plans m) start step k) × numbers.Numbers m d.list d.number
    follows k d e = (
      ap (λ (x : Draw). x.number) (is_at k d e),
      subst⁻¹ (λ (x : Draw). numbers.Numbers m x.list x.number) (is_at k d e) (listing_numbers m law (walk (plans m) start step k) (step_below k)),
    )

    same_step : (j k : ℕ) → j < (of s).counts.drawn → k < (of s).counts.drawn → walk (plans m) start step j ≡ walk (plans m) start step k → j ≡ k
    same_step j k hj hk e = i.tours.once j k (omega (arith, i.within)) (omega (arith, i.within)) e

    numbers_once : (j k : ℕ) (d e : Draw) → slice_get (drawn_in log) j ≡ Some d → slice_get (drawn_in log) k ≡ Some e → d.number ≡ e.number → j ≡ k
    numbers_once j k d e p q same =
        same_step j k (place j d p) (place k e q) (sym (follows j d p).0 ∙ same ∙ (follows k e q).0)

    lists_once : (j k : ℕ) (d e : Draw) → slice_get (drawn_in log) j ≡ Some d → slice_get (drawn_in log) k ≡ Some e → d.list ≡ e.list → j ≡ k
    lists_once j k d e p q same =
        same_step j k (place j d p) (place k e q)
        (same_listing m law (walk (plans m) start step j) (walk (plans m) start step k) (step_below j) (step_below k)
        (sym (ap (λ (x : Draw). x.list) (is_at j d p)) ∙ same ∙ ap (λ (x : Draw). x.list) (is_at k e q)))

    -- where as many plans are drawn as there are, every complete plan is
    all_drawn : (of s).counts.drawn ≡ plans m → IsAllDrawn m log
    all_drawn full list c =
        let x = number c.0 in
        let t = i.tours.every x (number_below m law c.0) in (
          t.0,
          draw_at m start step t.0,
          i.drawn_is t.0 (omega (arith, t.1, full)),
          ap (listing m) t.2 ∙ listing_of m law c.0 ∙ c.1,
        )

    -- and the other way round: the next plan of the walk would be missing
    drawn_all : IsAllDrawn m log → (of s).counts.drawn ≡ plans m
    drawn_all all = elim (dec_lt (of s).counts.drawn (plans m)) [
      | yes lt ↦
          let j = (of s).counts.drawn in
          let x = walk (plans m) start step j in
          let f = all (listing m x) (listing_complete m law x (step_below j)) in
          let at = is_at f.0 f.1 f.2 in
          let same : walk (plans m) start step f.0 ≡ x =
          same_listing m law (walk (plans m) start step f.0) x (step_below f.0) (step_below j) (sym (ap (λ (d : Draw). d.list) at) ∙ f.3) in
          let k : f.0 ≡ j = i.tours.once f.0 j (omega (arith, place f.0 f.1 f.2)) lt same in
          absurd (omega (arith, place f.0 f.1 f.2))
      | no ge ↦ omega (arith, i.within)
    ]

  draw_exactly : (c : Ready) → At m start step baseline first (of_ready c) finds log → 0 < plans m
      → (lent : Lent) (old new : List Node) (r : Result Drawn NotDrawn) → Drew m lent c old new r → Exactly (is_err r ≡ true) (Short m lent ⊎ IsAllDrawn m log)
  draw_exactly c i some lent old new (Ok d) h = (
    λ (e : false ≡ true). grind arith,
    ⊎_elim
        (λ (short : Short m lent). absurd (accepted_long m lent c.n c.counts.drawn h.0 short))
        (λ (all : IsAllDrawn m log). absurd (accepted_more m lent c.n c.counts.drawn h.0 (drawn_all (inl c) i some all ∙ sym i.n_is))),
  )
  draw_exactly c i some lent old new (Err d) h = (
    λ (e : true ≡ true).
        ⊎_elim
        (λ p. inr (all_drawn (inl c) i some (refused_done m lent c.n c.counts.drawn d.why i.n_is p h.0 ∙ i.n_is)))
        (λ (short : Short m lent). inl short)
        (writes_or_short m lent quiet),
    λ _. refl,
  )

  to_the_last : (s : Ready ⊎ Pending) → At m start step baseline first (of s) finds log → 0 < plans m → DrawsToTheLast m s log
  to_the_last (inl c) i some = draw_exactly c i some
  to_the_last (inr p) i some = tt

  module _ (verdict : Verdict) (Differ : ℕ → ℕ → Type 0) (same : (base x : ℕ) → base < plans m → x < plans m → Exactly (verdict base x ≡ Ok Differing) (Differ base x)) where
    -- the ruling of a run of p, in words of the log
    ruling_exactly : (p : Pending) → At m start step baseline first (of_pending p) finds log → p.number ≡ latest log → (lent : Lent) (values : ℕ)
        → Exactly (ruling verdict m lent values (length finds) p ≡ Ok Differing) ((RunShort m lent values → ⊥) × ((counted_in log).differing < length finds) × Differ baseline (latest log))
    ruling_exactly p i last lent values =
        let r = differing_exactly m quiet lent values p.n p.counts.differing (length finds) (verdict p.baseline p.number) i.n_is in
        let e = same baseline (latest log) (baseline_below log p i last) (latest_below log p i last) in
        let told : verdict p.baseline p.number ≡ verdict baseline (latest log) = ap (λ b. verdict b p.number) i.base_is ∙ ap (verdict baseline) last in
        let d_is : p.counts.differing ≡ (counted_in log).differing = ap (λ (c : Counts). c.differing) i.counts_is in (
          λ h. let q = r.0 h in (q.0, omega (arith, q.1, d_is), e.0 (sym told ∙ q.2)),
          λ q. r.1 (q.0, omega (arith, q.1, d_is), told ∙ e.1 q.2),
        )

    run_exactly : (p : Pending) → At m start step baseline first (of_pending p) finds log → p.number ≡ latest log
        → (lent : Lent) (values : ℕ) (finds' : List ℕ) (r : Result Ran NotRun) → Runs verdict m lent values p finds finds' r
        → Exactly (AnswersDiffering r) ((RunShort m lent values → ⊥) × ((counted_in log).differing < length finds) × Differ baseline (latest log))
    run_exactly p i last lent values finds' (Ok d) h =
        let r = ruling_exactly p i last lent values in
        (λ o. r.0 (h.0 ∙ ap Ok o), λ q. let e = r.1 q in cc (e, h.0))
    run_exactly p i last lent values finds' (Err d) h =
        let r = ruling_exactly p i last lent values in
        (λ o. absurd o, λ q. let e = r.1 q in let f = h.0 in grind arith)

    tells : (s : Ready ⊎ Pending) → At m start step baseline first (of s) finds log → Last s log → TellsDiffering verdict Differ m baseline s finds log
    tells (inl c) i last = tt
    tells (inr p) i last = run_exactly p i last

-- two events on logs are the same event
event_same : {x y : Event} {xs ys : Log} → x ∷ xs ≡ y ∷ ys → x ≡ y
event_same e = cc

module _ (m : Meaning) (law : Lawful m) (quiet : Quiet m) (verdict : Verdict) (steady : Steady verdict) where
  module _ (start step baseline tallies : ℕ) (first : List ℕ) (ready : Ready) (begun : Made m tallies start step baseline (Ok ready)) where
    whole : {s : Ready ⊎ Pending} {finds : List ℕ} {log : Log} → Steps m verdict (inl ready) first s finds log → Finished log → IsAllDrawn m log
    whole still f = let e = f.1 in grind arith
    whole (draws lent old new c d finds log before h) f = let e = event_same f.1 in grind arith
    whole (draw_refused lent old new c d finds log before h) f =
        let e = event_same f.1 in
        let why : d.why ≡ AllDrawn = cc in
        let i = (past m verdict steady start step baseline tallies first ready begun before).0 in
        all_drawn m law quiet log (inl c) i (omega (arith, c.starts, i.n_is)) (refused_all m lent c.n c.counts.drawn (h.0 ∙ ap Some why) ∙ i.n_is)
    whole (runs lent values p d finds finds' log before h) f = let e = event_same f.1 in grind arith
    whole (run_refused lent values p d finds finds' log before h) f = let e = event_same f.1 in grind arith
    whole (skips p c finds log before h) f = let e = event_same f.1 in grind arith

balance : (s : Ready ⊎ Pending) → (told_counts s).drawn ≡ settled (told_counts s) + waiting s
balance (inl c) = omega (arith, c.settled)
balance (inr p) = p.settled

told_is : (s : Ready ⊎ Pending) → told_counts s ≡ (of s).counts
told_is (inl c) = refl
told_is (inr p) = refl

-- a campaign is of at least one plan
some_plans : (s : Ready ⊎ Pending) (n : ℕ) → (of s).n ≡ n → 0 < n
some_plans (inl c) n e = omega (arith, c.starts)
some_plans (inr p) n e = omega (arith, p.starts)

module _ (m : Meaning) (law : Lawful m) (quiet : Quiet m) (verdict : Verdict) (steady : Steady verdict) (Differ : ℕ → ℕ → Type 0)
    (same : (base x : ℕ) → base < plans m → x < plans m → Exactly (verdict base x ≡ Ok Differing) (Differ base x)) where
  pub promised : Promised m verdict Differ
  promised start step baseline first s finds log h =
      let p = past m verdict steady start step baseline h.tallies first h.ready h.made h.steps in
      let i = p.0 in
      let some = some_plans s (plans m) i.n_is in
      let counts_is : told_counts s ≡ counted_in log = told_is s ∙ i.counts_is in
      let d_is : (of s).counts.differing ≡ (counted_in log).differing = ap (λ (c : Counts). c.differing) i.counts_is in
      record {
        follows = follows m law quiet log s i some;
        numbers_once = numbers_once m law quiet log s i some;
        lists_once = lists_once m law quiet log s i some;
        to_the_last = to_the_last m law quiet log s i some;
        whole = whole m law quiet verdict steady start step baseline h.tallies first h.ready h.made h.steps;
        tells = tells m law quiet log verdict Differ same s i p.1;
        found = sym (ap (λ k. take k finds) d_is) ∙ i.found;
        found_long = i.found_long ∙ d_is;
        beyond = sym (ap (λ k. drop k finds) d_is) ∙ i.beyond ∙ ap (λ k. drop k first) d_is;
        found_once = i.once;
        never_baseline = i.never;
        counts = counts_is;
        balance = balance s;
      }

pub every_history : EveryHistory
every_history m law quiet verdict steady = promised m law quiet verdict steady (λ base x. verdict base x ≡ Ok Differing) (λ base x hb hx. (λ e. e, λ e. e))
