-- What a call answers once the tally buffer is filled.
use Rattle.std.proofs.Common.{◌≡◌, ℕ, ◌<◌, ◌≤◌, true, false, cond, eqb, ltb, List, map, length, get_or, take, Some, None, Ok, Err, Result, sym, ap, ap₂, ◌∙◌, subst₂, arith}
use Rattle.std.proofs.lemmas.Bool.{cond-false, cond-true, le-ltb, lt-ltb, ne_eqb}
use Rattle.std.proofs.lemmas.List.FromFn.{get_or-map-range_with_len}
use Rattle.std.proofs.lemmas.List.{take_at}
use Rattle.std.specs.List.{list_any, range_with_len}
use Rattle.spaces.specs.Spaces.{Lawful, Meaning}
use Rattle.numbering.specs.Census.{Census}
use Rattle.numbering.specs.declared.refusal.Refusal.{Refusal}
use Rattle.numbering.specs.declared.refusal.Refusal.TheVariants.{PlansTooLarge, TooManyPlans}
use Rattle.numbering.specs.declared.tally.Tally.{Tally}
use Rattle.numbering.specs.Refusals.{answered, count_checks, first_of, largest, plans}
use Rattle.numbering.specs.Tallies.{filled, made, many, most_nodes, over, tally}
use Rattle.numbering.proofs.Fills.{count_most, length_front, over_any}
use Rattle.numbering.proofs.Rolls.{census}

-- the space has n goals, which are some; the buffer ts had room for their tallies, and has been filled to us
pub record IsFilled (m : Meaning) (n : ℕ) (ts us : List Tally) : Type 0 where
  pub goals : n ≡ m.goals
  pub some : n ≡ 0 → ⊥
  pub room : n ≤ length ts
  pub is : us ≡ filled m m.goals ts

module _ (m : Meaning) (law : Lawful m) (n : ℕ) (ts us : List Tally) (full : IsFilled m n ts us) where
  -- N and Z
  abbrev both : ℕ × ℕ
  both = (plans m, largest m)

  front : take n us ≡ map (tally m) (range_with_len 0 m.goals)
  front = ap₂ take full.goals full.is ∙ take_at _ _ m.goals (length_front m m.goals)

  many_is : list_any many (take n us) ≡ over m m.goals
  many_is = ap (list_any many) front ∙ over_any m m.goals

  checks : first_of (count_checks m (length ts)) ≡ cond (over m m.goals) (Some TooManyPlans) (cond (ltb most_nodes (largest m)) (Some PlansTooLarge) None)
  checks =
      cond-false (eqb m.goals 0) _ _ (ne_eqb m.goals 0 (λ h. full.some (full.goals ∙ h)))
      ∙ cond-false (ltb (length ts) m.goals) _ _ (le-ltb (length ts) m.goals (omega (arith, full.goals, full.room)))

  pub answer_many : list_any many (take n us) ≡ true → Err TooManyPlans ≡ answered (first_of (count_checks m (length ts))) both
  answer_many h = sym (ap (λ e. answered e both) (checks ∙ cond-true (over m m.goals) _ _ (sym many_is ∙ h)))

  -- no goal has too many plans, and the tally of the root is read
  module _ (few : list_any many (take n us) ≡ false) (r : ℕ) (root : r ≡ m.root) where
    abbrev top : Tally
    top = get_or (take n us) r (made 0 0)

    root_within : m.root < m.goals
    root_within = law.root_below (omega (arith, full.goals, full.some))

    at_root : top ≡ tally m m.root
    at_root = ap₂ (λ fs k. get_or fs k (made 0 0)) front root ∙ get_or-map-range_with_len (tally m) 0 m.goals m.root m.root (made 0 0) root_within (omega arith)

    last_check : first_of (count_checks m (length ts)) ≡ cond (ltb most_nodes (largest m)) (Some PlansTooLarge) None
    last_check = checks ∙ cond-false (over m m.goals) _ _ (sym many_is ∙ few)

    pub answer_large : most_nodes < top.size → Err PlansTooLarge ≡ answered (first_of (count_checks m (length ts))) both
    answer_large h =
        let large : ltb most_nodes (largest m) ≡ true = lt-ltb most_nodes (largest m) (omega (arith, ap (λ (t : Tally). t.size) at_root)) in
        sym (ap (λ e. answered e both) (last_check ∙ cond-true (ltb most_nodes (largest m)) _ _ large))

    plans_is : top.count ≡ plans m
    plans_is = omega (arith, ap (λ (t : Tally). t.count) at_root, count_most m m.goals m.root (sym many_is ∙ few) root_within)

    module _ (fits : top.size ≤ most_nodes) where
      largest_is : top.size ≡ largest m
      largest_is = omega (arith, ap (λ (t : Tally). t.size) at_root)

      pub answer_ok : ◌≡◌ {A = Result (ℕ × ℕ) Refusal} (Ok (top.count, top.size)) (answered (first_of (count_checks m (length ts))) both)
      answer_ok =
          let small : ltb most_nodes (largest m) ≡ false = le-ltb most_nodes (largest m) (omega (arith, largest_is)) in
          let same : ◌≡◌ {A = ℕ × ℕ} (top.count, top.size) both = cc (plans_is, largest_is) in
          ap Ok same ∙ sym (ap (λ e. answered e both) (last_check ∙ cond-false (ltb most_nodes (largest m)) _ _ small))

      pub census_is : Census m top.count top.size
      census_is = subst₂ (Census m) (sym plans_is) (sym largest_is) (census m law)
