-- What the tables of refusals say of a quiet space.
use Rattle.std.proofs.Common.{◌≡◌, ℕ, ◌<◌, ◌≤◌, Bool, true, false, not, eqb, ltb, ◌⊎◌, [], ◌∷◌, Some, None, Ok, Option, Result, sym, inl, inr, ⊎_elim, arith}
use Rattle.std.proofs.lemmas.Bool.{both_ways, cases_lt, eq-eqb, eqb-true, le-ltb, lt-ltb, ltb-true, ne_eqb}
use Rattle.spaces.specs.Spaces.{Meaning}
use Rattle.numbering.specs.declared.refusal.Refusal.{Refusal}
use Rattle.numbering.specs.declared.refusal.Refusal.TheVariants.{NoGoals, PlanShort, PlansTooLarge, TalliesShort, TooManyPlans, WorkShort}
use Rattle.numbering.specs.Ranks.{write_checks}
use Rattle.numbering.specs.Refusals.{first_of, largest, plans}
use Rattle.numbering.specs.Tallies.{most_nodes, over}
use Rattle.campaigns.specs.declared.outcome.Outcome.{Outcome}
use Rattle.campaigns.specs.declared.outcome.Outcome.TheVariants.{Differing}
use Rattle.campaigns.specs.declared.refusal.CampaignRefusal.{CampaignRefusal}
use Rattle.campaigns.specs.declared.refusal.CampaignRefusal.TheVariants.{AllDrawn, OtherSpace, ValuesShort}
use Rattle.campaigns.specs.Calls.{ruled}
use Rattle.campaigns.specs.Divisors.{Exactly}
use Rattle.campaigns.specs.Promises.{Quiet, RunShort, Short}
use Rattle.campaigns.specs.Refusals.{Lent, draw_refusal, run_refusal, space_first}

-- the six checks of a call that writes plans
abbrev six : Bool → Bool → Bool → Bool → Bool → Bool → Option Refusal
six a b c d e f =
    first_of ((a, NoGoals) ∷ ((b, TalliesShort) ∷ ((c, TooManyPlans) ∷ ((d, PlansTooLarge) ∷ ((e, WorkShort) ∷ ((f, PlanShort) ∷ []))))))

passed_or_short : (a b c d e f : Bool) → a ≡ false → c ≡ false → d ≡ false → (six a b c d e f ≡ None) ⊎ ((b ≡ true) ⊎ ((e ≡ true) ⊎ (f ≡ true)))
passed_or_short a b c d e f p q r = grind arith

none_passed : (a b c d e f : Bool) → six a b c d e f ≡ None → (b ≡ true) ⊎ ((e ≡ true) ⊎ (f ≡ true)) → ⊥
none_passed a b c d e f h s = grind arith

abbrev space_checks : Meaning → Lent → Option Refusal
space_checks m lent = first_of (write_checks m lent.tallies lent.work lent.plan)

module _ (m : Meaning) (lent : Lent) where
  tests_short : (ltb lent.tallies m.goals ≡ true) ⊎ ((ltb lent.work (largest m) ≡ true) ⊎ (ltb lent.plan (largest m) ≡ true)) → Short m lent
  tests_short (inl t) = inl (ltb-true lent.tallies m.goals t)
  tests_short (inr (inl t)) = inr (inl (ltb-true lent.work (largest m) t))
  tests_short (inr (inr t)) = inr (inr (ltb-true lent.plan (largest m) t))

  short_tests : Short m lent → (ltb lent.tallies m.goals ≡ true) ⊎ ((ltb lent.work (largest m) ≡ true) ⊎ (ltb lent.plan (largest m) ≡ true))
  short_tests (inl t) = inl (lt-ltb lent.tallies m.goals t)
  short_tests (inr (inl t)) = inr (inl (lt-ltb lent.work (largest m) t))
  short_tests (inr (inr t)) = inr (inr (lt-ltb lent.plan (largest m) t))

  -- a quiet space refuses a call that writes plans only for short buffers
  pub writes_or_short : Quiet m → (space_checks m lent ≡ None) ⊎ Short m lent
  writes_or_short q =
      ⊎_elim (λ (p : space_checks m lent ≡ None). inl p) (λ (s : (ltb lent.tallies m.goals ≡ true) ⊎ ((ltb lent.work (largest m) ≡ true) ⊎ (ltb lent.plan (largest m) ≡ true))). inr (tests_short s))
      (passed_or_short (eqb m.goals 0) (ltb lent.tallies m.goals) (over m m.goals) (ltb most_nodes (largest m)) (ltb lent.work (largest m)) (ltb lent.plan (largest m))
      (ne_eqb m.goals 0 (λ e. omega (arith, q.some))) q.few (le-ltb most_nodes (largest m) q.small))

  pub writes_long : space_checks m lent ≡ None → Short m lent → ⊥
  writes_long p s =
      none_passed (eqb m.goals 0) (ltb lent.tallies m.goals) (over m m.goals) (ltb most_nodes (largest m)) (ltb lent.work (largest m)) (ltb lent.plan (largest m)) p (short_tests s)

-- ---- draws

abbrev drawing : Option Refusal → Bool → Bool → Option CampaignRefusal
drawing o same all = space_first o ((not same, OtherSpace) ∷ ((all, AllDrawn) ∷ []))

drawing_passed : (o : Option Refusal) (same all : Bool) → drawing o same all ≡ None → (o ≡ None) × (all ≡ false)
drawing_passed o same all h = grind arith

drawing_refused : (o : Option Refusal) (same all : Bool) (e : CampaignRefusal) → o ≡ None → same ≡ true → drawing o same all ≡ Some e → all ≡ true
drawing_refused o same all e p q h = grind arith

drawing_all : (o : Option Refusal) (same all : Bool) → drawing o same all ≡ Some AllDrawn → all ≡ true
drawing_all o same all h = grind arith

module _ (m : Meaning) (lent : Lent) (n drawn : ℕ) where
  pub refused_all : draw_refusal m lent n drawn ≡ Some AllDrawn → drawn ≡ n
  refused_all h = eqb-true drawn n (drawing_all (space_checks m lent) (eqb (plans m) n) (eqb drawn n) h)

  pub accepted_long : draw_refusal m lent n drawn ≡ None → Short m lent → ⊥
  accepted_long h = writes_long m lent (drawing_passed (space_checks m lent) (eqb (plans m) n) (eqb drawn n) h).0

  pub accepted_more : draw_refusal m lent n drawn ≡ None → drawn ≡ n → ⊥
  accepted_more h e =
      both_ways (eqb drawn n) (drawing_passed (space_checks m lent) (eqb (plans m) n) (eqb drawn n) h).1 (eq-eqb drawn n e)

  pub refused_done : (e : CampaignRefusal) → n ≡ plans m → space_checks m lent ≡ None → draw_refusal m lent n drawn ≡ Some e → drawn ≡ n
  refused_done e same p h =
      eqb-true drawn n (drawing_refused (space_checks m lent) (eqb (plans m) n) (eqb drawn n) e p (eq-eqb (plans m) n (sym same)) h)

-- ---- runs

abbrev running : Option Refusal → Bool → Bool → Option CampaignRefusal
running o few same = space_first o ((few, ValuesShort) ∷ ((not same, OtherSpace) ∷ []))

running_passed : (o : Option Refusal) (few same : Bool) → running o few same ≡ None → (o ≡ None) × (few ≡ false)
running_passed o few same h = grind arith

running_none : (o : Option Refusal) (few same : Bool) → o ≡ None → few ≡ false → same ≡ true → running o few same ≡ None
running_none o few same p q r = grind arith

pub ruled_differing : (o : Option CampaignRefusal) (told : Result Outcome ℕ) (d room : ℕ) → ruled o told d room ≡ Ok Differing → (o ≡ None) × (d < room) × (told ≡ Ok Differing)
ruled_differing o told d room h = grind arith

differing_ruled : (o : Option CampaignRefusal) (told : Result Outcome ℕ) (d room : ℕ) → o ≡ None → d < room → told ≡ Ok Differing → ruled o told d room ≡ Ok Differing
differing_ruled o told d room p lt q = grind arith

module _ (m : Meaning) (q : Quiet m) (lent : Lent) (values n d room : ℕ) (told : Result Outcome ℕ) (same : n ≡ plans m) where
  long : run_refusal m lent values n ≡ None → RunShort m lent values → ⊥
  long h (inl s) = writes_long m lent (running_passed (space_checks m lent) (ltb values (largest m)) (eqb (plans m) n) h).0 s
  long h (inr lt) =
      both_ways (ltb values (largest m)) (running_passed (space_checks m lent) (ltb values (largest m)) (eqb (plans m) n) h).1 (lt-ltb values (largest m) lt)

  none_short : (RunShort m lent values → ⊥) → run_refusal m lent values n ≡ None
  none_short enough =
      running_none (space_checks m lent) (ltb values (largest m)) (eqb (plans m) n)
      (⊎_elim (λ (p : space_checks m lent ≡ None). p) (λ (s : Short m lent). absurd (enough (inl s))) (writes_or_short m lent q))
      (⊎_elim (λ (lt : values < largest m). absurd (enough (inr lt))) (λ (le : largest m ≤ values). le-ltb values (largest m) le) (cases_lt values (largest m)))
      (eq-eqb (plans m) n (sym same))

  -- a run comes to 'differing' exactly when no buffer is short, the finds list has an entry, and the two plans differ
  pub differing_exactly : Exactly (ruled (run_refusal m lent values n) told d room ≡ Ok Differing) ((RunShort m lent values → ⊥) × (d < room) × (told ≡ Ok Differing))
  differing_exactly = (
    λ h. let r = ruled_differing (run_refusal m lent values n) told d room h in (long r.0, r.1, r.2),
    λ h. differing_ruled (run_refusal m lent values n) told d room (none_short h.0) h.1 h.2,
  )
