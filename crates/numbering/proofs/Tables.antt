-- What is known past the checks of a call.
use Rattle.std.proofs.Common.{◌≡◌, ℕ, ◌<◌, ◌≤◌, Bool, true, false, cond, eqb, ltb, leb, List, [], ◌∷◌, ◌++◌, length, drop, Some, None, Ok, Err, Option, Result, sym, refl, ap, ◌∙◌, subst, arith}
use Rattle.std.proofs.lemmas.Bool.{cond-false, cond-true, eqb-false, le-leb, lt-leb, ltb-false}
use Rattle.spaces.specs.Spaces.{Meaning}
use Rattle.spaces.specs.Places.{none_some}
use Rattle.numbering.specs.declared.node.Node.{Node}
use Rattle.numbering.specs.declared.refusal.Refusal.{Refusal}
use Rattle.numbering.specs.declared.refusal.Refusal.TheVariants.{NoGoals, NoSuchPlan, PlansTooLarge, TalliesShort, TooManyPlans}
use Rattle.numbering.specs.declared.tally.Tally.{Tally}
use Rattle.numbering.specs.Ranks.{Judged, Ranked, Unranked, unrank_checks, write_checks}
use Rattle.numbering.specs.Refusals.{after_tally, answered, count_checks, first_of, largest, plans}
use Rattle.numbering.specs.Standing.{Standing, Written}
use Rattle.numbering.specs.Tallies.{filled, look, most_nodes, over}
use Rattle.numbering.proofs.Fills.{count_most, look_filled}

-- ---- tables

-- no check of a table applies: what follows it decides
pub first_past : (xs ys : List (Bool × Refusal)) → first_of xs ≡ None → first_of (xs ++ ys) ≡ first_of ys
first_past [] ys e = refl
first_past (x ∷ xs) ys e = go x.0 x.1 xs ys e (first_past xs ys)
  where
    go : (b : Bool) (r : Refusal) (xs ys : List (Bool × Refusal)) → cond b (Some r) (first_of xs) ≡ None → (first_of xs ≡ None → first_of (xs ++ ys) ≡ first_of ys) →
        cond b (Some r) (first_of (xs ++ ys)) ≡ first_of ys
    go true r xs ys e next = none_some (sym e)
    go false r xs ys e next = next e

-- a check of a table applies: what follows it does not matter
pub first_stays : (xs ys : List (Bool × Refusal)) (r : Refusal) → first_of xs ≡ Some r → first_of (xs ++ ys) ≡ Some r
first_stays [] ys r e = none_some e
first_stays (x ∷ xs) ys r e = go x.0 x.1 xs ys r e (first_stays xs ys r)
  where
    go : (b : Bool) (q : Refusal) (xs ys : List (Bool × Refusal)) (r : Refusal) → cond b (Some q) (first_of xs) ≡ Some r → (first_of xs ≡ Some r → first_of (xs ++ ys) ≡ Some r) →
        cond b (Some q) (first_of (xs ++ ys)) ≡ Some r
    go true q xs ys r e next = e
    go false q xs ys r e next = next e

module _ {T : Type 0} where
  pub ok_none : (o : Option Refusal) (x y : T) → Ok y ≡ answered o x → (o ≡ None) × (y ≡ x)
  ok_none None x y e = (refl, cc)
  ok_none (Some r) x y e = let z : ◌≡◌ {A = ℕ} 0 1 = cc in absurd (omega arith)

  pub err_some : (o : Option Refusal) (x : T) (r : Refusal) → Err r ≡ answered o x → o ≡ Some r
  err_some None x r e = let z : ◌≡◌ {A = ℕ} 0 1 = cc in absurd (omega arith)
  err_some (Some q) x r e = cc

  -- one check more, which does not apply
  pub answer_past : (xs : List (Bool × Refusal)) (b : Bool) (r : Refusal) (x y : T) → Ok y ≡ answered (first_of xs) x → b ≡ false → Ok y ≡ answered (first_of (xs ++ ((b, r) ∷ []))) x
  answer_past xs b r x y e f =
      let k = ok_none (first_of xs) x y e in
      let n : first_of (xs ++ ((b, r) ∷ [])) ≡ None = first_past xs ((b, r) ∷ []) k.0 ∙ cond-false b _ _ f in
      ap Ok k.1 ∙ sym (ap (λ o. answered o x) n)

-- ---- unrank

module _ (m : Meaning) (number room work plan : ℕ) where
  pub unrank_stays : (e : Refusal) → ◌≡◌ {A = Result (ℕ × ℕ) Refusal} (Err e) (answered (first_of (write_checks m room work plan)) (plans m, largest m)) →
      first_of (unrank_checks m number room work plan) ≡ Some e
  unrank_stays e h = first_stays (write_checks m room work plan) ((leb (plans m) number, NoSuchPlan) ∷ []) e (err_some (first_of (write_checks m room work plan)) (plans m, largest m) e h)

  module _ (n z : ℕ) (h : ◌≡◌ {A = Result (ℕ × ℕ) Refusal} (Ok (n, z)) (answered (first_of (write_checks m room work plan)) (plans m, largest m))) where
    known : (first_of (write_checks m room work plan) ≡ None) × ◌≡◌ {A = ℕ × ℕ} (n, z) (plans m, largest m)
    known = ok_none (first_of (write_checks m room work plan)) (plans m, largest m) (n, z) h

    pub plans_known : n ≡ plans m
    plans_known = ap (λ (p : ℕ × ℕ). p.0) known.1

    pub unrank_here : n ≤ number → first_of (unrank_checks m number room work plan) ≡ Some NoSuchPlan
    unrank_here l =
        first_past (write_checks m room work plan) ((leb (plans m) number, NoSuchPlan) ∷ []) known.0
        ∙ cond-true (leb (plans m) number) _ _ (le-leb (plans m) number (omega (arith, plans_known)))

    pub unrank_past : number < n → first_of (unrank_checks m number room work plan) ≡ None
    unrank_past l =
        first_past (write_checks m room work plan) ((leb (plans m) number, NoSuchPlan) ∷ []) known.0
        ∙ cond-false (leb (plans m) number) _ _ (lt-leb (plans m) number (omega (arith, plans_known)))

pub unranked_refused : (m : Meaning) (o : Option Refusal) (number : ℕ) (r : Result ℕ Refusal) (e : Refusal) (plan : List Node) → o ≡ Some e → r ≡ Err e → Unranked m o number r plan plan
unranked_refused m o number r e plan p q = subst (λ x. Unranked m x number r plan plan) (sym p) (q, refl)

pub unranked_written : (m : Meaning) (o : Option Refusal) (number n : ℕ) (old new : List Node) → o ≡ None → Written m number n old new → Unranked m o number (Ok n) old new
unranked_written m o number n old new p w =
    subst (λ x. Unranked m x number (Ok n) old new) (sym p) (w.list, w.numbers, ap Ok w.long, w.buffer ∙ ap (λ k. w.list ++ drop k old) w.long)

-- ---- rank

pub ranked_refused : (m : Meaning) (o : Option Refusal) (list : List Node) (r : Result ℕ Refusal) (e : Refusal) → o ≡ Some e → r ≡ Err e → Ranked m o list r
ranked_refused m o list r e p q = subst (λ x. Ranked m x list r) (sym p) q

pub ranked_judged : (m : Meaning) (o : Option Refusal) (list : List Node) (r : Result ℕ Refusal) → o ≡ None → Judged m list r → Ranked m o list r
ranked_judged m o list r p q = subst (λ x. Ranked m x list r) (sym p) q

-- ---- the tallies stand past the checks of count

past : (b : Bool) (e : Refusal) (o : Option Refusal) → cond b (Some e) o ≡ None → (b ≡ false) × (o ≡ None)
past true e o h = none_some (sym h)
past false e o h = (refl, h)

pub standing : (m : Meaning) (ts us : List Tally) → first_of (count_checks m (length ts)) ≡ None → us ≡ after_tally m ts → length us ≡ length ts → Standing m us
standing m ts us none is long =
    let p1 = past (eqb m.goals 0) NoGoals _ none in
    let p2 = past (ltb (length ts) m.goals) TalliesShort _ p1.1 in
    let p3 = past (over m m.goals) TooManyPlans _ p2.1 in
    let p4 = past (ltb most_nodes (largest m)) PlansTooLarge None p3.1 in
    let whole : us ≡ filled m m.goals ts = is ∙ cond-false (ltb (length ts) m.goals) _ _ p2.0 in
    let fits : m.goals ≤ length ts = ltb-false (length ts) m.goals p2.0 in
    let ne : m.goals ≡ 0 → ⊥ = eqb-false m.goals 0 p1.0 in
    record {
      some = omega arith;
      room = omega arith;
      right = λ g h. ap (λ vs. look vs (Some g)) whole ∙ look_filled m m.goals ts g h;
      few = λ g h. count_most m m.goals g p3.0 h;
      small = ltb-false most_nodes (largest m) p4.0;
    }
