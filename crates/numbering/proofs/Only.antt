-- What is said of the answers of rank and unrank holds of one answer alone.
use Rattle.std.proofs.Common.{◌≡◌, ℕ, ◌<◌, ◌≤◌, List, ◌++◌, length, drop, Some, None, Ok, Err, Option, Result, sym, refl, ap, ◌∙◌, ⊎_elim, arith}
use Rattle.std.proofs.lemmas.Bool.{cases_lt}
use Rattle.spaces.specs.Spaces.{Lawful, Meaning}
use Rattle.spaces.specs.Places.{none_some, some_below, some_inj}
use Rattle.std.specs.List.{slice_get}
use Rattle.numbering.specs.declared.node.Node.{Node}
use Rattle.numbering.specs.declared.refusal.Refusal.{Refusal}
use Rattle.numbering.specs.declared.refusal.Refusal.TheVariants.{ListEnds, NoLiveAlternative, NodesFollow, OtherGoal}
use Rattle.numbering.specs.Beginnings.{BreaksAt, Misfit, goal_due, list_ends, no_live_alternative, nodes_follow, other_goal}
use Rattle.numbering.specs.Ranks.{Judged, Ranked, Unranked, UnrankedOnly}
use Rattle.numbering.specs.Refusals.{plans}
use Rattle.numbering.proofs.Numberings.{numbering}

module _ (m : Meaning) (list : List Node) where
  -- a list breaks at one place
  one_place : (p q : ℕ) → BreaksAt m list p → BreaksAt m list q → p ≡ q
  one_place p q a b =
      ⊎_elim
      (λ (some : 0 < plans m). ⊎_elim (λ l. absurd (a.no_longer q l b.within (b.begins some)))
      (λ le. ⊎_elim (λ l. absurd (b.no_longer p l a.within (a.begins some))) (λ ge. omega arith) (cases_lt q p)) (cases_lt p q))
      (λ (none : plans m ≤ 0). a.none (omega arith) ∙ sym (b.none (omega arith)))
      (cases_lt 0 (plans m))

  -- a goal is due at a place, or none is; a node stands there, or the list ends
  due_apart : {p q g : ℕ} → p ≡ q → goal_due m list p ≡ Some g → goal_due m list q ≡ None → ⊥
  due_apart {p} {q} {g} e a b = none_some (sym b ∙ ap (goal_due m list) (sym e) ∙ a)

  node_apart : {p q : ℕ} {x : Node} → p ≡ q → slice_get list p ≡ Some x → q ≡ length list → ⊥
  node_apart {p} {q} {x} e at end = omega (arith, some_below list p x at)

  goal_apart : {p q g : ℕ} {x y : Node} → p ≡ q → goal_due m list p ≡ Some g → slice_get list p ≡ Some x → goal_due m list q ≡ Some y.goal → slice_get list q ≡ Some y → x.goal ≡ g
  goal_apart {p} {q} {g} {x} {y} e a at b bt =
      let same : x ≡ y = some_inj (sym at ∙ ap (slice_get list) e ∙ bt) in
      ap (λ (n : Node). n.goal) same ∙ some_inj (sym b ∙ ap (goal_due m list) (sym e) ∙ a)

  pub one_misfit : {e f : Refusal} → Misfit m list e → Misfit m list f → e ≡ f
  one_misfit (other_goal p g x a d at ne) (other_goal q h y b d' bt ne') = ap OtherGoal (one_place p q a b)
  one_misfit (other_goal p g x a d at ne) (no_live_alternative q y b d' bt dead) = absurd (ne (goal_apart (one_place p q a b) d at d' bt))
  one_misfit (other_goal p g x a d at ne) (list_ends q h b d' end) = absurd (node_apart (one_place p q a b) at end)
  one_misfit (other_goal p g x a d at ne) (nodes_follow q y b d' bt) = absurd (due_apart (one_place p q a b) d d')
  one_misfit (no_live_alternative p x a d at dead) (other_goal q h y b d' bt ne) = absurd (ne (goal_apart (one_place q p b a) d' bt d at))
  one_misfit (no_live_alternative p x a d at dead) (no_live_alternative q y b d' bt dead') = ap NoLiveAlternative (one_place p q a b)
  one_misfit (no_live_alternative p x a d at dead) (list_ends q h b d' end) = absurd (node_apart (one_place p q a b) at end)
  one_misfit (no_live_alternative p x a d at dead) (nodes_follow q y b d' bt) = absurd (due_apart (one_place p q a b) d d')
  one_misfit (list_ends p g a d end) (other_goal q h y b d' bt ne) = absurd (node_apart (one_place q p b a) bt end)
  one_misfit (list_ends p g a d end) (no_live_alternative q y b d' bt dead) = absurd (node_apart (one_place q p b a) bt end)
  one_misfit (list_ends p g a d end) (list_ends q h b d' end') = ap ListEnds (one_place p q a b)
  one_misfit (list_ends p g a d end) (nodes_follow q y b d' bt) = absurd (node_apart (one_place q p b a) bt end)
  one_misfit (nodes_follow p x a d at) (other_goal q h y b d' bt ne) = absurd (due_apart (one_place q p b a) d' d)
  one_misfit (nodes_follow p x a d at) (no_live_alternative q y b d' bt dead) = absurd (due_apart (one_place q p b a) d' d)
  one_misfit (nodes_follow p x a d at) (list_ends q h b d' end) = absurd (node_apart (one_place p q a b) at end)
  one_misfit (nodes_follow p x a d at) (nodes_follow q y b d' bt) = ap NodesFollow (one_place p q a b)

  one_judged : (r s : Result ℕ Refusal) → Judged m list r → Judged m list s → r ≡ s
  one_judged (Ok n) s a b = sym (b.complete n (a.accepted n refl))
  one_judged (Err e) (Ok n) a b = a.complete n (b.accepted n refl)
  one_judged (Err e) (Err f) a b = ap Err (one_misfit (a.refused e refl) (b.refused f refl))

  pub ranked_only : (o : Option Refusal) (r s : Result ℕ Refusal) → Ranked m o list r → Ranked m o list s → s ≡ r
  ranked_only None r s a b = one_judged s r b a
  ranked_only (Some e) r s a b = b ∙ sym a

pub unranked_only : (m : Meaning) → Lawful m → (o : Option Refusal) (number : ℕ) (r : Result ℕ Refusal) (old new : List Node) → Unranked m o number r old new → UnrankedOnly m o number r old new
unranked_only m law None number r old new a s buffer b =
    let same : b.0 ≡ a.0 = (numbering m law).one_list b.0 a.0 number b.1 a.1 in
    (b.2 ∙ ap (λ (list : List Node). Ok (length list)) same ∙ sym a.2, b.3 ∙ ap (λ list. list ++ drop (length list) old) same ∙ sym a.3)
unranked_only m law (Some e) number r old new a s buffer b = (b.0 ∙ sym a.0, b.1 ∙ sym a.1)
