-- The plans of the worked examples as trees.
use Rattle.std.proofs.Common.{ℕ, Some, refl}
use lib.Count.{ones, count_trailing_zeros}
use Rattle.spaces.specs.Bushes.{bushes, deposit}
use Rattle.spaces.specs.declared.kind.Kind.{Kind}
use Rattle.spaces.specs.declared.kind.Kind.TheVariants.{HashJoin, IndexScan, MergeJoin, Scan, Sort}
use Rattle.spaces.specs.declared.order.Order.TheVariants.{Any}
use Rattle.spaces.specs.declared.space.Alternative.{Alternative}
use Rattle.spaces.specs.Orders.{ordered}
use Rattle.memos.specs.Worked.{worked_space}
use Rattle.numbering.specs.Plans.{Tree, node, none}

abbrev way : Kind → ℕ → ℕ → ℕ → Alternative
way k t l r = record { kind = k; tag = t; left = l; right = r }

-- plans 3 and 0 of the worked memo
abbrev pub third : Tree worked_space (Some 2)
third = node 1 (way HashJoin 0 1 0) refl (node 0 (way Scan 2 0 0) refl none none) (node 1 (way IndexScan 1 0 0) refl none none)

abbrev pub zeroth : Tree worked_space (Some 2)
zeroth = node 0 (way HashJoin 0 0 1) refl (node 0 (way Scan 1 0 0) refl none none) (node 0 (way Scan 2 0 0) refl none none)

-- plan 5 of its order layer, in any order
abbrev pub fifth : Tree (ordered worked_space Any) (Some 4)
fifth =
    node 2 (way MergeJoin 0 1 3) refl
    (node 1 (way Sort 0 0 0) refl (node 0 (way Scan 1 0 0) refl none none) none)
    (node 0 (way Sort 0 2 0) refl (node 0 (way Scan 2 0 0) refl none none) none)

-- plan 11 of the bushy trees over three relations
abbrev pub eleventh : Tree (bushes 3 HashJoin) (Some 7)
unfolding deposit ones count_trailing_zeros
eleventh =
    node 5 (way HashJoin 0 6 1) refl
    (node 1 (way HashJoin 0 4 2) refl (node 0 (way Scan 2 0 0) refl none none) (node 0 (way Scan 1 0 0) refl none none))
    (node 0 (way Scan 0 0 0) refl none none)
