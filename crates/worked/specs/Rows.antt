-- Worked examples: what the definitions come to on small spaces.
use Rattle.std.specs.Prelude.{◌≡◌, ℕ, List, [], ◌∷◌, map, Some, None, codes, Option}
use Rattle.std.specs.List.{range_with_len, AllByRecursion}
use Rattle.spaces.specs.Bushes.{bushes}
use Rattle.spaces.specs.declared.kind.Kind.{Kind}
use Rattle.spaces.specs.declared.kind.Kind.TheVariants.{HashJoin, IndexScan, Scan}
use Rattle.spaces.specs.declared.order.Order.TheVariants.{Any, Sorted}
use Rattle.spaces.specs.Orders.{ordered}
use Rattle.spaces.specs.Spaces.{Meaning}
use Rattle.memos.specs.Memos.{Contents}
use Rattle.memos.specs.Opens.{Encodes}
use Rattle.memos.specs.Worked.{worked_file, worked_memo, worked_space}
use Rattle.numbering.specs.Beginnings.{Misfit}
use Rattle.numbering.specs.declared.node.Node.{Node}
use Rattle.numbering.specs.declared.refusal.Refusal.{Refusal}
use Rattle.numbering.specs.declared.refusal.Refusal.TheVariants.{ListEnds}
use Rattle.numbering.specs.Numbers.{Numbers}
use Rattle.numbering.specs.Plans.{Tree, number}
use Rattle.numbering.specs.Refusals.{largest, plans}
use Rattle.texts.specs.Texts.{tree_text}
use Rattle.campaigns.specs.declared.refusal.CampaignRefusal.{CampaignRefusal}
use Rattle.campaigns.specs.declared.refusal.CampaignRefusal.TheVariants.{AllDrawn, BadStep}
use Rattle.campaigns.specs.Refusals.{draw_refusal, lent_of, make_refusal}
use Rattle.campaigns.specs.Walks.{walk}

pub data Row : Type 0 where
  -- a file is the encoding of a memo
  file : List ℕ → Contents → Row
  -- a space has n plans, the largest of z nodes
  counts : Meaning → ℕ → ℕ → Row
  -- a space has n plans
  holds : Meaning → ℕ → Row
  -- the plan of a space with the number n has a text
  text : Meaning → ℕ → List ℕ → Row
  -- a list is that of a space's plan with the number n
  ranks : Meaning → List Node → ℕ → Row
  -- a list is no plan of a space, for a reason and at a place
  refused : Meaning → List Node → Refusal → Row
  -- a campaign over a space with a start, a step and a baseline is made, or refused
  made : Meaning → ℕ → ℕ → ℕ → Option CampaignRefusal → Row
  -- the draws of a campaign over a space with a start and a step, and what the draw after them is refused with
  draws : Meaning → ℕ → ℕ → List ℕ → CampaignRefusal → Row

abbrev pub Stands : Row → Type 0
Stands (file bytes memo) = Encodes bytes memo
Stands (counts m n z) = (plans m ≡ n) × (largest m ≡ z)
Stands (holds m n) = plans m ≡ n
Stands (text m n bytes) = (t : Tree m (Some m.root)) × (number t ≡ n) × (tree_text t ≡ bytes)
Stands (ranks m list n) = Numbers m list n
Stands (refused m list e) = Misfit m list e
Stands (made m start step baseline e) = make_refusal m m.goals start step baseline ≡ e
Stands (draws m start step numbers e) =
    (map (walk (plans m) start step) (range_with_len 0 (plans m)) ≡ numbers)
    × (draw_refusal m (lent_of m.goals (largest m) (largest m)) (plans m) (plans m) ≡ Some e)

abbrev pub at_node : ℕ → Kind → ℕ → ℕ → ℕ → Node
at_node g k t l r = record { goal = g; alternative = record { kind = k; tag = t; left = l; right = r } }

abbrev pub rows : List Row
rows =
    file worked_file worked_memo
    ∷ (counts worked_space 6 3
    ∷ (counts (ordered worked_space Any) 7 5
    ∷ (counts (ordered worked_space Sorted) 10 6
    ∷ (holds (bushes 3 HashJoin) 12
    ∷ (text worked_space 3 (codes "H0@2(S2@1,I1@0)")
    ∷ (ranks worked_space (at_node 2 HashJoin 0 1 0 ∷ (at_node 1 Scan 2 0 0 ∷ (at_node 0 IndexScan 1 0 0 ∷ []))) 3
    ∷ (text (ordered worked_space Any) 5 (codes "M0@4(O0@1(S1@0),O0@3(S2@2))")
    ∷ (text (bushes 3 HashJoin) 11 (codes "H0@7(H0@6(S2@4,S1@2),S0@1)")
    ∷ (refused worked_space (at_node 2 HashJoin 0 0 1 ∷ (at_node 0 Scan 1 0 0 ∷ [])) (ListEnds 2)
    ∷ (made worked_space 2 5 0 None
    ∷ (draws worked_space 2 5 (2 ∷ (1 ∷ (0 ∷ (5 ∷ (4 ∷ (3 ∷ [])))))) AllDrawn
    ∷ (made worked_space 2 4 0 (Some BadStep)
    ∷ []))))))))))))

abbrev pub WorkedRows : Type 0
WorkedRows = AllByRecursion Stands rows
