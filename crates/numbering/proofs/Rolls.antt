-- All complete plans written down in the order of their numbers.
use Rattle.std.proofs.Common.{◌≡◌, ℕ, zero, suc, ◌+◌, ◌<◌, ◌≤◌, List, [], ◌∷◌, ◌++◌, length, Some, sym, refl, ap, ◌∙◌, subst, ⊎_elim, arith}
use Rattle.std.proofs.lemmas.Bool.{cases_lt}
use Rattle.std.specs.List.{AllByRecursion, slice_get}
use Rattle.spaces.specs.Places.{some_inj}
use Rattle.spaces.specs.Spaces.{Apart, Lawful, Meaning}
use Rattle.numbering.specs.Census.{Census}
use Rattle.numbering.specs.declared.node.Node.{Node}
use Rattle.numbering.specs.Plans.{Complete, Tree, count, nodes, number, size}
use Rattle.numbering.proofs.Counts.{count_goal, size_goal}
use Rattle.numbering.proofs.Sizes.{length_most, no_ways, reach_goal}
use Rattle.numbering.proofs.Trees.{make, number_below, parse, same_number}

module _ (m : Meaning) (law : Lawful m) where
  plan : (k : ℕ) → k < count m (Some m.root) → (t : Tree m (Some m.root)) × (number t ≡ k)
  plan k h = make m law (suc m.root) (Some m.root) k (λ g e. omega (arith, some_inj e)) h

  same_numbers : (t s : Tree m (Some m.root)) → nodes t ≡ nodes s → number t ≡ number s
  same_numbers t s e = (parse m law t s [] [] refl (ap (λ x. x ++ []) e)).1

  -- the lists of n plans, from number a on
  record Run (n a : ℕ) : Type 0 where
    plans : List (List Node)
    long : length plans ≡ n
    complete : AllByRecursion (Complete m) plans
    later : (t : Tree m (Some m.root)) → number t < a → AllByRecursion (λ y. nodes t ≡ y → ⊥) plans
    apart : Apart plans
    found : (t : Tree m (Some m.root)) → a ≤ number t → number t < a + n → (i : ℕ) × (slice_get plans i ≡ Some (nodes t))

  one_more : (n a : ℕ) (p : Tree m (Some m.root)) → number p ≡ a → Run n (a + 1) → Run (suc n) a
  one_more n a p e r = record {
    plans = nodes p ∷ r.plans;
    long = ap suc r.long;
    complete = ((p, refl), r.complete);
    later = λ t lt. ((λ same. let z : number t ≡ number p = same_numbers t p same in omega arith), r.later t (omega arith));
    apart = (r.later p (omega arith), r.apart);
    found = λ t low high. ⊎_elim
        (λ (lt : a < number t). let at = r.found t (omega arith) (omega arith) in (suc at.0, at.1))
        (λ (le : number t ≤ a). (0, ap Some (same_number m law p t refl (omega arith))))
        (cases_lt a (number t));
  }

  run : (n a : ℕ) → a + n ≤ count m (Some m.root) → Run n a
  run zero a h = record { plans = []; long = refl; complete = tt; later = λ t lt. tt; apart = tt; found = λ t low high. absurd (omega arith) }
  run (suc n) a h = let p = plan a (omega arith) in one_more n a p.0 p.1 (run n (a + 1) (omega arith))

  pub census : Census m (count m (Some m.root)) (size m (Some m.root))
  census =
      let all = run (count m (Some m.root)) 0 (omega arith) in
      record {
        roll = record {
          plans = all.plans;
          apart = all.apart;
          complete = all.complete;
          whole = λ list c. let at = all.found c.0 (omega arith) (omega (arith, number_below m law c.0)) in (at.0, at.1 ∙ ap Some c.1);
        };
        count = all.long;
        most = λ list c. subst (λ x. length x ≤ size m (Some m.root)) c.1 (length_most m law c.0);
        reached = λ h. let r = reach_goal m law m.root h in (nodes r.0, (r.0, refl), r.1);
        none = λ e. size_goal m law m.root ∙ no_ways (count m) (size m) (m.lists m.root) (sym (count_goal m law m.root) ∙ e);
      }
