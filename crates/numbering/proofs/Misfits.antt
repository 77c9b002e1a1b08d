-- Where a list that is read as a plan breaks, and what a reading comes to.
use Rattle.std.proofs.Common.{◌≡◌, ℕ, zero, suc, ◌+◌, ◌<◌, ◌≤◌, List, [], ◌∷◌, ◌++◌, length, take, Some, Ok, Err, sym, refl, ap, ◌∙◌, subst, append_assoc, append-nil, arith}
use Rattle.std.proofs.lemmas.List.{take_all}
use Rattle.std.specs.List.{slice_get}
use Rattle.spaces.specs.Spaces.{Lawful, Meaning}
use Rattle.spaces.specs.Places.{none_some, some_below, some_inj}
use Rattle.numbering.specs.declared.due.Due.{Due}
use Rattle.numbering.specs.declared.node.Node.{Node}
use Rattle.numbering.specs.declared.refusal.Refusal.{Refusal}
use Rattle.numbering.specs.declared.refusal.Refusal.TheVariants.{ListEnds, NoLiveAlternative, NodesFollow, OtherGoal}
use Rattle.numbering.specs.Beginnings.{BreaksAt, Live, Misfit, list_ends, no_live_alternative, nodes_follow, other_goal}
use Rattle.numbering.specs.Dues.{due}
use Rattle.numbering.specs.Numbers.{Numbers}
use Rattle.numbering.specs.Plans.{Complete}
use Rattle.numbering.specs.Ranks.{Judged}
use Rattle.numbering.proofs.Numberings.{numbering}
use Rattle.numbering.proofs.Progress.{Reading, complete_rest, reading_begins, rest_numbers}
use Rattle.numbering.proofs.Readings.{Rest, not_empty, step_out}

-- a beginning that reaches past the place p has the node at p after the first p
beyond : (list : List Node) (p q : ℕ) (x : Node) → slice_get list p ≡ Some x → p < q → (zs : List Node) × (take q list ≡ take p list ++ (x ∷ zs))
beyond [] p q x e h = none_some e
beyond (y ∷ ys) p zero x e h = absurd (omega arith)
beyond (y ∷ ys) zero (suc q) x e h = (take q ys, ap (λ (z : Node). z ∷ take q ys) (some_inj e))
beyond (y ∷ ys) (suc p) (suc q) x e h = let r = beyond ys p q x e (omega arith) in (r.0, ap (λ (zs : List Node). y ∷ zs) r.1)

nil_cons : {X : Type 0} {x : X} {xs : List X} → [] ≡ x ∷ xs → ⊥
nil_cons e = let z : ◌≡◌ {A = ℕ} 0 1 = cc in omega arith

module _ (m : Meaning) (law : Lawful m) (list : List Node) where
  -- what the goals due cannot begin with stands at the place
  breaks_before : (p : ℕ) (s : List Due) (read : ℕ) (x : Node) → Reading m list p s read → slice_get list p ≡ Some x → ((ys : List Node) (n : ℕ) → Rest m s (x ∷ ys) n → ⊥) → BreaksAt m list p
  breaks_before p s read x held at never =
      let below : p < length list = some_below list p x at in
      let no_plan : (q : ℕ) (rest : List Node) → p < q → Complete m (take q list ++ rest) → ⊥
      = λ q rest h c.
      let b = beyond list p q x at h in
      let whole : take q list ++ rest ≡ take p list ++ (x ∷ (b.0 ++ rest)) = ap (λ t. t ++ rest) b.1 ∙ append_assoc (take p list) (x ∷ b.0) rest in
      let r = complete_rest m law (take q list ++ rest) c in
      let k = held.back (x ∷ (b.0 ++ rest)) r.0 (subst (λ t. Rest m (due m.root 1 ∷ []) t r.0) whole r.1) in
      never (b.0 ++ rest) k.0 k.1 in
      record {
        incomplete = λ c. no_plan (length list) [] below (subst (Complete m) (sym (append-nil (take (length list) list) ∙ take_all (length list) list (omega arith))) c);
        within = omega arith;
        begins = λ some. reading_begins m law list p s read held some;
        none = held.begun;
        no_longer = λ q h within b. no_plan q b.0 h b.1;
      }

  breaks_end : (p : ℕ) (d : Due) (s : List Due) (read : ℕ) → Reading m list p (d ∷ s) read → p ≡ length list → BreaksAt m list p
  breaks_end p d s read held e =
      record {
        incomplete = λ c.
            let whole : list ≡ take p list ++ [] = sym (append-nil (take p list) ∙ take_all p list (omega arith)) in
            let r = complete_rest m law list c in
            let k = held.back [] r.0 (subst (λ t. Rest m (due m.root 1 ∷ []) t r.0) whole r.1) in
            not_empty m law d s k.0 k.1;
        within = omega arith;
        begins = λ some. reading_begins m law list p (d ∷ s) read held some;
        none = held.begun;
        no_longer = λ q h within b. omega arith;
      }

  pub other_goal_at : (p : ℕ) (d : Due) (s : List Due) (read : ℕ) (x : Node) → Reading m list p (d ∷ s) read → slice_get list p ≡ Some x → (x.goal ≡ d.goal → ⊥) → Misfit m list (OtherGoal p)
  other_goal_at p d s read x held at other =
      other_goal p d.goal x (breaks_before p (d ∷ s) read x held at (λ ys n r. other (step_out m law d s x ys n r).goal_is)) (ap (λ t. slice_get t 0) held.dues) at other

  pub no_live_at : (p : ℕ) (d : Due) (s : List Due) (read : ℕ) (x : Node) → Reading m list p (d ∷ s) read → slice_get list p ≡ Some x → x.goal ≡ d.goal →
      (Live m x.goal x.alternative → ⊥) → Misfit m list (NoLiveAlternative p)
  no_live_at p d s read x held at same dead =
      no_live_alternative p x
      (breaks_before p (d ∷ s) read x held at (λ ys n r. dead (subst (λ g. Live m g x.alternative) (sym same) (step_out m law d s x ys n r).live)))
      (ap (λ t. slice_get t 0) held.dues ∙ ap Some (sym same)) at dead

  pub list_ends_at : (p : ℕ) (d : Due) (s : List Due) (read : ℕ) → Reading m list p (d ∷ s) read → p ≡ length list → Misfit m list (ListEnds p)
  list_ends_at p d s read held e = list_ends p d.goal (breaks_end p d s read held e) (ap (λ t. slice_get t 0) held.dues) e

  pub nodes_follow_at : (p read : ℕ) (x : Node) → Reading m list p [] read → slice_get list p ≡ Some x → Misfit m list (NodesFollow p)
  nodes_follow_at p read x held at =
      nodes_follow p x (breaks_before p [] read x held at (λ ys n r. nil_cons r.0)) (ap (λ t. slice_get t 0) held.dues) at

  pub numbers_at : (p read : ℕ) → Reading m list p [] read → length list ≤ p → Numbers m list read
  numbers_at p read held short =
      let r = rest_numbers m law (take p list ++ []) (read + 0) (held.forth [] 0 (refl, refl)) in
      let whole : take p list ++ [] ≡ list = append-nil (take p list) ∙ take_all p list short in
      (r.0, r.1 ∙ whole, omega (arith, r.2))

  -- ---- what a call answers

  misfit_incomplete : {e : Refusal} → Misfit m list e → Complete m list → ⊥
  misfit_incomplete (other_goal p g x b gd at other) = b.incomplete
  misfit_incomplete (no_live_alternative p x b gd at dead) = b.incomplete
  misfit_incomplete (list_ends p g b gd end) = b.incomplete
  misfit_incomplete (nodes_follow p x b gd at) = b.incomplete

  pub judged_misfit : (e : Refusal) → Misfit m list e → Judged m list (Err e)
  judged_misfit e f = record {
    accepted = λ n h. let z : ◌≡◌ {A = ℕ} 0 1 = cc in absurd (omega arith);
    complete = λ n p. absurd (misfit_incomplete f (p.0, p.1));
    refused = λ r h. let same : e ≡ r = cc in subst (Misfit m list) same f;
  }

  pub judged_number : (n : ℕ) → Numbers m list n → Judged m list (Ok n)
  judged_number n p = record {
    accepted = λ k h. let same : n ≡ k = cc in subst (Numbers m list) same p;
    complete = λ k q. ap Ok ((numbering m law).one_number list n k p q);
    refused = λ r h. let z : ◌≡◌ {A = ℕ} 0 1 = cc in absurd (omega arith);
  }
