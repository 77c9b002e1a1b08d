-- What a report answers, past its checks and before.
use Rattle.std.proofs.Common.{◌≡◌, ℕ, ◌<◌, ◌≤◌, Bool, true, false, ◌||◌, leb, List, [], ◌∷◌, ◌++◌, length, Some, None, Ok, Err, Option, Result, sym, refl, ap, ◌∙◌, subst, append-nil}
use Rattle.std.proofs.lemmas.Bool.{cond-false, cond-true}
use Rattle.spaces.specs.Spaces.{Lawful, Meaning}
use Rattle.numbering.specs.declared.node.Node.{Node}
use Rattle.numbering.specs.declared.refusal.Refusal.{Refusal}
use Rattle.numbering.specs.declared.refusal.Refusal.TheVariants.{NoSuchPlan, TextShort}
use Rattle.numbering.specs.Ranks.{unrank_checks, write_checks}
use Rattle.numbering.specs.Refusals.{answered, first_of, largest, plans}
use Rattle.numbering.proofs.Tables.{err_some, first_past, first_stays, ok_none}
use Rattle.texts.specs.Layout.{laid}
use Rattle.texts.specs.Reports.{AreLines, Lined, IsLine, Reported, Untouched, any_past, more, none, report_checks}
use Rattle.texts.specs.Texts.{Spelled}
use Rattle.texts.proofs.Reports.{every_report}
use Rattle.texts.proofs.Spells.{too_short, written}

pub untouched : (o : Option Refusal) (old : List Node) → Untouched o old old
untouched (Some e) old = refl
untouched None old = tt

module _ (m : Meaning) (numbers : List ℕ) (room work plan : ℕ) where
  pub report_stays : (e : Refusal) → ◌≡◌ {A = Result (ℕ × ℕ) Refusal} (Err e) (answered (first_of (write_checks m room work plan)) (plans m, largest m)) →
      first_of (report_checks m numbers room work plan) ≡ Some e
  report_stays e h =
      first_stays (write_checks m room work plan) ((any_past (plans m) numbers, NoSuchPlan) ∷ []) e (err_some (first_of (write_checks m room work plan)) (plans m, largest m) e h)

  module _ (n z : ℕ) (h : ◌≡◌ {A = Result (ℕ × ℕ) Refusal} (Ok (n, z)) (answered (first_of (write_checks m room work plan)) (plans m, largest m))) where
    known : (first_of (write_checks m room work plan) ≡ None) × ◌≡◌ {A = ℕ × ℕ} (n, z) (plans m, largest m)
    known = ok_none (first_of (write_checks m room work plan)) (plans m, largest m) (n, z) h

    pub may_touch : (old new : List Node) → Untouched (first_of (write_checks m room work plan)) old new
    may_touch old new = subst (λ o. Untouched o old new) (sym known.0) tt

    same_past : any_past (plans m) numbers ≡ any_past n numbers
    same_past = ap (λ (p : ℕ × ℕ). any_past p.0 numbers) (sym known.1)

    pub report_here : true ≡ any_past n numbers → first_of (report_checks m numbers room work plan) ≡ Some NoSuchPlan
    report_here e =
        first_past (write_checks m room work plan) ((any_past (plans m) numbers, NoSuchPlan) ∷ []) known.0
        ∙ cond-true (any_past (plans m) numbers) _ _ (same_past ∙ sym e)

    pub none_past : false ≡ any_past n numbers → any_past (plans m) numbers ≡ false
    none_past e = same_past ∙ sym e

    pub report_past : any_past (plans m) numbers ≡ false → first_of (report_checks m numbers room work plan) ≡ None
    report_past e =
        first_past (write_checks m room work plan) ((any_past (plans m) numbers, NoSuchPlan) ∷ []) known.0
        ∙ cond-false (any_past (plans m) numbers) _ _ e

pub reported_refused : (m : Meaning) (o : Option Refusal) (numbers : List ℕ) (r : Result ℕ Refusal) (e : Refusal) (old : List ℕ) → o ≡ Some e → r ≡ Err e → Reported m o numbers r old old
reported_refused m o numbers r e old p q = subst (λ x. Reported m x numbers r old old) (sym p) (q, refl)

module _ (m : Meaning) (law : Lawful m) (o : Option Refusal) (numbers : List ℕ) (past : o ≡ None) (below : any_past (plans m) numbers ≡ false) where
  pub reported_short : (n : ℕ) (old : List ℕ) → ((bytes : List ℕ) → AreLines m numbers bytes → n ≡ length bytes) → length old < n → Reported m o numbers (Err TextShort) old old
  reported_short n old long short =
      let all = every_report m law numbers below in
      subst (λ x. Reported m x numbers (Err TextShort) old old) (sym past)
      (all.0, all.1, too_short all.0 old (subst (λ k. length old < k) (long all.0 all.1) short))

  pub reported_written : (n : ℕ) (old new : List ℕ) → ((bytes : List ℕ) → AreLines m numbers bytes → n ≡ length bytes) → n ≤ length old →
      ((bytes : List ℕ) → AreLines m numbers bytes → new ≡ laid 0 bytes old) → Reported m o numbers (Ok n) old new
  reported_written n old new long fits same =
      let all = every_report m law numbers below in
      let size = long all.0 all.1 in
      subst (λ x. Reported m x numbers (Ok n) old new) (sym past)
      (all.0, all.1, written all.0 old new n size (subst (λ k. k ≤ length old) size fits) (same all.0 all.1))

-- ---- the report of one number is its line

or_none : (b : Bool) → (b || false) ≡ b
or_none true = refl
or_none false = refl

one_checks : (m : Meaning) (x room work plan : ℕ) → first_of (report_checks m (x ∷ []) room work plan) ≡ first_of (unrank_checks m x room work plan)
one_checks m x room work plan =
    ap (λ b. first_of (write_checks m room work plan ++ ((b, NoSuchPlan) ∷ []))) (or_none (leb (plans m) x))

one_bytes : (m : Meaning) (x : ℕ) (bytes : List ℕ) → AreLines m (x ∷ []) bytes → (l : List ℕ) × IsLine m x l × (bytes ≡ l)
one_bytes m x bytes (more {bytes = l} p none) = (l, p, append-nil l)

one_lined : (m : Meaning) (o : Option Refusal) (x : ℕ) (r : Result ℕ Refusal) (old new : List ℕ) → Reported m o (x ∷ []) r old new → Lined m o x r old new
one_lined m (Some e) x r old new said = said
one_lined m None x r old new said =
    let k = one_bytes m x said.0 said.1 in
    (k.0, k.1, subst (λ b. Spelled b r old new) k.2 said.2)

pub lined : (m : Meaning) (x room work plan : ℕ) (r : Result ℕ Refusal) (old new : List ℕ) → Reported m (first_of (report_checks m (x ∷ []) room work plan)) (x ∷ []) r old new →
    Lined m (first_of (unrank_checks m x room work plan)) x r old new
lined m x room work plan r old new said =
    subst (λ o. Lined m o x r old new) (one_checks m x room work plan) (one_lined m (first_of (report_checks m (x ∷ []) room work plan)) x r old new said)
