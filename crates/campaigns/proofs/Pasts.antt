-- What is kept along a history.
use Rattle.std.proofs.Common.{◌≡◌, ℕ, ◌+◌, ◌*◌, ◌%◌, ◌<◌, ◌≤◌, ◌⊎◌, List, [], ◌∷◌, ◌++◌, length, take, drop, set, Some, Ok, sym, refl, ap, ◌∙◌, ap₂, subst₂, inl, inr, mod-lt, arith, length-append}
use mathlib.Core.Path.{subst⁻¹}
use native.Mathlib.Decide.{dec_lt}
use Rattle.std.proofs.ByRecursion.{All-push, All-weaker}
use Rattle.std.proofs.lemmas.List.{drop-drop, drop-set-lt, take_more_set}
use Rattle.std.specs.List.{AllByRecursion, slice_get}
use Rattle.spaces.specs.Spaces.{Apart, Meaning}
use Rattle.numbering.specs.declared.node.Node.{Node}
use Rattle.numbering.specs.Listings.{listing}
use Rattle.numbering.specs.Refusals.{plans}
use Rattle.campaigns.specs.declared.campaign.Pending.{Pending}
use Rattle.campaigns.specs.declared.campaign.Ready.{Ready}
use Rattle.campaigns.specs.declared.counts.Counts.{Counts}
use Rattle.campaigns.specs.declared.outcome.Outcome.{Outcome}
use Rattle.campaigns.specs.declared.outcome.Outcome.TheVariants.{Agreed, Differing, Faulted}
use Rattle.campaigns.specs.Calls.{Made, Numbers, Verdict, counting, finds_after, fresh, of_pending, of_ready, ruling, upcoming}
use Rattle.campaigns.specs.Counting.{no_counts, one_drawn, one_ran, one_skipped, settled}
use Rattle.campaigns.specs.Divisors.{Coprime}
use Rattle.campaigns.specs.Histories.{Draw, Log, Steps, a_run, counted_in, differing_in, draw, draw_refused, drawn_in, draws, latest, run_refused, runs, skips, still}
use Rattle.campaigns.specs.Promises.{Steady}
use Rattle.campaigns.specs.Refusals.{Lent, run_refusal}
use Rattle.campaigns.specs.Walks.{walk}
use Rattle.campaigns.proofs.Checks.{accepted_more, ruled_differing}
use Rattle.campaigns.proofs.Listed.{drawn_list}
use Rattle.campaigns.proofs.Pushes.{apart_push, nth_new, nth_old}
use Rattle.campaigns.proofs.Walks.{Tours, tour}

-- the draw that step k of the walk calls for
abbrev pub draw_at : Meaning → ℕ → ℕ → ℕ → Draw
draw_at m start step k = draw (walk (plans m) start step k) (listing m (walk (plans m) start step k))

-- x is one of the first j numbers of the walk
abbrev Earlier : ℕ → ℕ → ℕ → ℕ → ℕ → Type 0
Earlier n start step j x = (k : ℕ) × (k < j) × (x ≡ walk n start step k)

-- the state s, the finds, and of the log the draws, the differing numbers and the counts
pub record Inv (m : Meaning) (start step baseline : ℕ) (first : List ℕ) (s : Numbers) (finds : List ℕ) (ds : List Draw) (fs : List ℕ) (cs : Counts) : Type 0 where
  pub n_is : s.n ≡ plans m
  pub start_is : s.start ≡ start
  pub step_is : s.step ≡ step
  pub base_is : s.baseline ≡ baseline
  pub tours : Tours (plans m) start step
  pub counts_is : s.counts ≡ cs
  pub within : s.counts.drawn ≤ plans m
  pub long : length ds ≡ s.counts.drawn
  pub drawn_is : (k : ℕ) → k < s.counts.drawn → slice_get ds k ≡ Some (draw_at m start step k)
  pub found_long : length fs ≡ s.counts.differing
  pub found : take s.counts.differing finds ≡ fs
  pub beyond : drop s.counts.differing finds ≡ drop s.counts.differing first
  pub early : AllByRecursion (Earlier (plans m) start step (settled s.counts)) fs
  pub once : Apart fs
  pub never : AllByRecursion (λ x. x ≡ baseline → ⊥) fs

at_made : (m : Meaning) (start step baseline : ℕ) (first : List ℕ) → start < plans m → Coprime step (plans m)
    → Inv m start step baseline first (fresh (plans m) start step baseline) first [] [] no_counts
at_made m start step baseline first lt coprime = record {
  n_is = refl;
  start_is = refl;
  step_is = refl;
  base_is = refl;
  tours = tour (plans m) start step lt coprime;
  counts_is = refl;
  within = omega arith;
  long = refl;
  drawn_is = λ k lt. absurd (omega arith);
  found_long = refl;
  found = refl;
  beyond = refl;
  early = tt;
  once = tt;
  never = tt;
}

module _ {m : Meaning} {start step baseline : ℕ} {first : List ℕ} {s : Numbers} {finds : List ℕ} {ds : List Draw} {fs : List ℕ} {cs : Counts} (i : Inv m start step baseline first s finds ds fs cs) where
  -- the state's own walk
  pub walk_is : (k : ℕ) → walk s.n s.start s.step k ≡ walk (plans m) start step k
  walk_is k =
      ap (λ n. (s.start + k * s.step) % n) i.n_is ∙ ap₂ (λ a b. (a + k * b) % plans m) i.start_is i.step_is

  at_drawn : (x : ℕ) (list : List Node) → s.counts.drawn < plans m → x ≡ upcoming s → list ≡ listing m x
      → Inv m start step baseline first (counting s (one_drawn s.counts)) finds (ds ++ (draw x list ∷ [])) fs (one_drawn cs)
  at_drawn x list lt x-is list_is =
      let here : x ≡ walk (plans m) start step s.counts.drawn = x-is ∙ walk_is s.counts.drawn in
      let same : draw x list ≡ draw_at m start step s.counts.drawn = ap₂ draw here (list_is ∙ ap (listing m) here) in
      record {
        n_is = i.n_is;
        start_is = i.start_is;
        step_is = i.step_is;
        base_is = i.base_is;
        tours = i.tours;
        counts_is = ap one_drawn i.counts_is;
        within = omega arith;
        long = length-append ds (draw x list ∷ []) ∙ ap (λ j. j + 1) i.long;
        drawn_is = λ k below. elim (dec_lt k s.counts.drawn) [
          | yes old ↦ nth_old ds (draw x list) k (omega (arith, i.long)) ∙ i.drawn_is k old
          | no ge ↦
              let k_is : k ≡ s.counts.drawn = omega arith in
              ap (slice_get (ds ++ (draw x list ∷ []))) (k_is ∙ sym i.long) ∙ nth_new ds (draw x list) ∙ ap Some (same ∙ ap (draw_at m start step) (sym k_is))
        ];
        found_long = i.found_long;
        found = i.found;
        beyond = i.beyond;
        early = i.early;
        once = i.once;
        never = i.never;
      }

  -- the numbers of earlier steps are those of earlier steps later on too
  later : (j : ℕ) → settled s.counts ≤ j → AllByRecursion (Earlier (plans m) start step j) fs
  later j le =
      All-weaker (Earlier (plans m) start step (settled s.counts)) (Earlier (plans m) start step j) (λ x p. (p.0, omega (arith, p.1), p.2)) fs i.early

  -- the same counts but for those of plans that are settled and not noted
  abbrev settling : ℕ → ℕ → ℕ → Counts
  settling agreed faulted skipped = record { drawn = s.counts.drawn; agreed = agreed; differing = s.counts.differing; faulted = faulted; skipped = skipped }

  at_settled : (agreed faulted skipped : ℕ) (cs' : Counts) → settling agreed faulted skipped ≡ cs' → settled s.counts ≤ settled (settling agreed faulted skipped)
      → Inv m start step baseline first (counting s (settling agreed faulted skipped)) finds ds fs cs'
  at_settled agreed faulted skipped cs' is more = record {
    n_is = i.n_is;
    start_is = i.start_is;
    step_is = i.step_is;
    base_is = i.base_is;
    tours = i.tours;
    counts_is = is;
    within = i.within;
    long = i.long;
    drawn_is = i.drawn_is;
    found_long = i.found_long;
    found = i.found;
    beyond = i.beyond;
    early = later (settled (settling agreed faulted skipped)) more;
    once = i.once;
    never = i.never;
  }

  at_skipped : Inv m start step baseline first (counting s (one_skipped s.counts)) finds ds fs (one_skipped cs)
  at_skipped = at_settled s.counts.agreed s.counts.faulted (s.counts.skipped + 1) (one_skipped cs) (ap one_skipped i.counts_is) (omega arith)

  at_agreed : Inv m start step baseline first (counting s (one_ran Agreed s.counts)) finds ds fs (one_ran Agreed cs)
  at_agreed = at_settled (s.counts.agreed + 1) s.counts.faulted s.counts.skipped (one_ran Agreed cs) (ap (one_ran Agreed) i.counts_is) (omega arith)

  at_faulted : (f : ℕ) → Inv m start step baseline first (counting s (one_ran (Faulted f) s.counts)) finds ds fs (one_ran (Faulted f) cs)
  at_faulted f = at_settled s.counts.agreed (s.counts.faulted + 1) s.counts.skipped (one_ran (Faulted f) cs) (ap (one_ran (Faulted f)) i.counts_is) (omega arith)

  at_differing : (number x : ℕ) → s.counts.differing < length finds → (x ≡ baseline → ⊥) → number ≡ x → x ≡ walk (plans m) start step (settled s.counts) → settled s.counts < plans m
      → Inv m start step baseline first (counting s (one_ran Differing s.counts)) (set finds s.counts.differing number) ds (fs ++ (x ∷ [])) (one_ran Differing cs)
  at_differing number x room other is here low =
      let d = s.counts.differing in
      let absent : AllByRecursion (λ y. y ≡ x → ⊥) fs =
      All-weaker (Earlier (plans m) start step (settled s.counts)) (λ y. y ≡ x → ⊥)
      (λ y p e. let same : p.0 ≡ settled s.counts = i.tours.once p.0 (settled s.counts) (omega (arith, p.1)) low (sym p.2 ∙ e ∙ here) in omega (arith, p.1))
      fs i.early in
      record {
        n_is = i.n_is;
        start_is = i.start_is;
        step_is = i.step_is;
        base_is = i.base_is;
        tours = i.tours;
        counts_is = ap (one_ran Differing) i.counts_is;
        within = i.within;
        long = i.long;
        drawn_is = i.drawn_is;
        found_long = length-append fs (x ∷ []) ∙ ap (λ j. j + 1) i.found_long;
        found = take_more_set finds d number room ∙ ap₂ (λ a b. a ++ (b ∷ [])) i.found is;
        beyond = drop-set-lt (d + 1) finds d number (omega arith) ∙ sym (drop-drop 1 d finds) ∙ ap (drop 1) i.beyond ∙ drop-drop 1 d first;
        early = All-push (Earlier (plans m) start step (settled (one_ran Differing s.counts))) fs x (later (settled (one_ran Differing s.counts)) (omega arith)) (settled s.counts, omega arith, here);
        once = apart_push fs x i.once absent;
        never = All-push (λ y. y ≡ baseline → ⊥) fs x i.never other;
      }

abbrev pub of : Ready ⊎ Pending → Numbers
of (inl c) = of_ready c
of (inr p) = of_pending p

-- a pending campaign's number is the last drawn
abbrev pub Last : Ready ⊎ Pending → Log → Type 0
Last (inl c) log = Unit {0}
Last (inr p) log = p.number ≡ latest log

-- what is kept, at the end of a history
abbrev pub At : Meaning → ℕ → ℕ → ℕ → List ℕ → Numbers → List ℕ → Log → Type 0
At m start step baseline first s finds log = Inv m start step baseline first s finds (drawn_in log) (differing_in log) (counted_in log)

below_by : (a b : ℕ) → a ≤ b → (a ≡ b → ⊥) → a < b
below_by a b le differ = elim (dec_lt a b) [ yes h ↦ h | no h ↦ absurd (differ (omega arith)) ]

module _ {m : Meaning} {start step baseline : ℕ} {first finds : List ℕ} (log : Log) (p : Pending) (i : At m start step baseline first (of_pending p) finds log) (last : p.number ≡ latest log) where
  -- the pending number stands at the end of the walk so far
  pub latest_is : latest log ≡ walk (plans m) start step (settled p.counts)
  latest_is = sym last ∙ p.chosen ∙ walk_is i (settled p.counts)

  pub latest_below : latest log < plans m
  latest_below =
      let lt : walk (plans m) start step (settled p.counts) < plans m = mod-lt (start + settled p.counts * step) (omega (arith, p.starts, i.n_is)) in
      omega (arith, latest_is)

  pub baseline_below : baseline < plans m
  baseline_below = omega (arith, p.based, i.n_is, i.base_is)

  at_ran : (o : Outcome) → (o ≡ Differing → (p.counts.differing < length finds) × (p.baseline ≡ p.number → ⊥))
      → At m start step baseline first (counting (of_pending p) (one_ran o p.counts)) (finds_after o p.counts.differing p.number finds) (a_run o ∷ log)
  at_ran Agreed h = at_agreed i
  at_ran (Faulted f) h = at_faulted i f
  at_ran Differing h =
      let d = h refl in
      at_differing i p.number (latest log) d.0 (λ e. d.1 (i.base_is ∙ sym e ∙ sym last)) last latest_is (omega (arith, p.settled, i.within))

module _ (m : Meaning) (verdict : Verdict) (steady : Steady verdict) where
  -- what a differing run of p says
  found_at : (lent : Lent) (values room : ℕ) (p : Pending) (o : Outcome) → ruling verdict m lent values room p ≡ Ok o → o ≡ Differing → (p.counts.differing < room) × (p.baseline ≡ p.number → ⊥)
  found_at lent values room p o h d =
      let q = ruled_differing (run_refusal m lent values p.n) (verdict p.baseline p.number) p.counts.differing room (h ∙ ap Ok d) in
      (q.1, λ e. steady p.number (sym (ap (λ x. verdict x p.number) e) ∙ q.2))

  module _ (start step baseline tallies : ℕ) (first : List ℕ) (ready : Ready) (begun : Made m tallies start step baseline (Ok ready)) where
    at_first : Inv m start step baseline first (of_ready ready) first [] [] no_counts
    at_first =
        let s_is = begun.1 in
        let n_is : ready.n ≡ plans m = ap (λ (s : Numbers). s.n) s_is in
        let start_is : ready.start ≡ start = ap (λ (s : Numbers). s.start) s_is in
        let step_is : ready.step ≡ step = ap (λ (s : Numbers). s.step) s_is in
        subst⁻¹ (λ s. Inv m start step baseline first s first [] [] no_counts) s_is
        (at_made m start step baseline first (omega (arith, ready.starts, n_is, start_is)) (subst₂ Coprime step_is n_is ready.coprime))

    pub past : {s : Ready ⊎ Pending} {finds : List ℕ} {log : Log} → Steps m verdict (inl ready) first s finds log → At m start step baseline first (of s) finds log × Last s log
    past still = (at_first, tt)
    past (draws lent old new c d finds log before h) =
        let i = (past before).0 in
        let more : c.counts.drawn < plans m =
        omega (arith, below_by c.counts.drawn c.n c.within (accepted_more m lent c.n c.counts.drawn h.0), i.n_is) in (
          subst⁻¹ (λ s. Inv m start step baseline first s finds (drawn_in log ++ (draw d.number (take d.len new) ∷ [])) (differing_in log) (one_drawn (counted_in log))) h.1.0
              (at_drawn i d.number (take d.len new) more h.1.2 (drawn_list m d.number d.len old new h.1.3 h.1.4)),
          h.1.1,
        )
    past (draw_refused lent old new c d finds log before h) =
        (subst⁻¹ (λ x. At m start step baseline first (of_ready x) finds log) h.1 (past before).0, tt)
    past (runs lent values p d finds finds' log before h) =
        let i = (past before).0 in
        let now = at_ran log p i (past before).1 d.outcome (found_at lent values (length finds) p d.outcome h.0) in (
          subst⁻¹ (λ s. At m start step baseline first s finds' (a_run d.outcome ∷ log)) h.1
              (subst⁻¹ (λ f. At m start step baseline first (counting (of_pending p) (one_ran d.outcome p.counts)) f (a_run d.outcome ∷ log)) h.2 now),
          tt,
        )
    past (run_refused lent values p d finds finds' log before h) = (
      subst⁻¹ (λ x. At m start step baseline first (of_pending x) finds' log) h.1 (subst⁻¹ (λ f. At m start step baseline first (of_pending p) f log) h.2 (past before).0),
      subst⁻¹ (λ (x : Pending). x.number ≡ latest log) h.1 (past before).1,
    )
    past (skips p c finds log before h) =
        (subst⁻¹ (λ s. Inv m start step baseline first s finds (drawn_in log) (differing_in log) (one_skipped (counted_in log))) h (at_skipped (past before).0), tt)
