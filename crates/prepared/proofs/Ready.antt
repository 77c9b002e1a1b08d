-- What is known of a space whose tallies stand.
use Rattle.std.proofs.Common.{◌≡◌, ℕ, zero, suc, ◌<◌, ◌≤◌, false, cond, ◌||◌, eqb, ltb, List, [], ◌∷◌, Some, None, refl, ◌∙◌, arith}
use Rattle.std.proofs.lemmas.Bool.{cond-false, cond-true, le-ltb, lt-ltb, ne_eqb}
use Rattle.spaces.specs.Spaces.{Meaning}
use Rattle.numbering.specs.declared.tally.Tally.{Tally}
use Rattle.numbering.specs.declared.refusal.Refusal.TheVariants.{WorkShort}
use Rattle.numbering.specs.Plans.{count}
use Rattle.numbering.specs.Ranks.{rank_checks}
use Rattle.numbering.specs.Refusals.{count_checks, first_of, largest}
use Rattle.numbering.specs.Standing.{Standing}
use Rattle.numbering.proofs.Tables as tables
use Rattle.numbering.specs.Tallies.{most_nodes, most_plans, over}

-- no goal has too many plans
none_over : (m : Meaning) (n : ℕ) → ((g : ℕ) → g < n → count m (Some g) ≤ most_plans) → over m n ≡ false
none_over m zero h = refl
none_over m (suc n) h =
    (λ i. none_over m n (λ g l. h g (omega arith)) i || ltb most_plans (count m (Some n))) ∙ le-ltb most_plans (count m (Some n)) (h n (omega arith))

module _ (m : Meaning) (ts : List Tally) (up : Standing m ts) where
  -- none of the refusals of a count applies
  pub counted : first_of (count_checks m m.goals) ≡ None
  counted =
      cond-false (eqb m.goals 0) _ _ (ne_eqb m.goals 0 (λ e. omega (arith, up.some)))
      ∙ cond-false (ltb m.goals m.goals) _ _ (le-ltb m.goals m.goals (omega arith))
      ∙ cond-false (over m m.goals) _ _ (none_over m m.goals up.few)
      ∙ cond-false (ltb most_nodes (largest m)) _ _ (le-ltb most_nodes (largest m) up.small)

  module _ (work : ℕ) where
    rank_first : first_of (rank_checks m m.goals work) ≡ cond (ltb work (largest m)) (Some WorkShort) None
    rank_first = tables.first_past (count_checks m m.goals) ((ltb work (largest m), WorkShort) ∷ []) counted

    pub rank_short : work < largest m → first_of (rank_checks m m.goals work) ≡ Some WorkShort
    rank_short h = rank_first ∙ cond-true (ltb work (largest m)) _ _ (lt-ltb work (largest m) h)

    pub rank_none : largest m ≤ work → first_of (rank_checks m m.goals work) ≡ None
    rank_none h = rank_first ∙ cond-false (ltb work (largest m)) _ _ (le-ltb work (largest m) h)
