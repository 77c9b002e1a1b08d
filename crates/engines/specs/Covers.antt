-- The rule of the engine that tells which relations a plan covers. A set of relations is a number: relation q is its binary digit q, as Members has it.
use Rattle.std.specs.Prelude.{ℕ, ◌^◌, Bool, false, cond, not, ◌&&◌, List, length, Ok, Err, Result, ◌==◌, bit_and, bit_or, nat_lt, slice_index_or}
use Rattle.spaces.specs.declared.kind.Kind.{Kind}
use Rattle.spaces.specs.declared.kind.Kind.TheVariants.{Filter, HashJoin, IndexScan, MergeJoin, NestedLoops, Scan, Sort}
use Rattle.spaces.specs.Kinds.{arity}
use Rattle.spaces.specs.Sorting.{output_sorted}
use Rattle.engines.specs.declared.cover.Covered.{Covered}
use Rattle.engines.specs.Faults.{child_unsorted, children_misfit, no_such_relation, sides_overlap}

-- a set of relations, and whether it is sorted
abbrev pub covered : ℕ → Bool → Covered
covered relations sorted = record { relations = relations; sorted = sorted }

-- what is read where there is no child
abbrev pub no_child : Covered
no_child = covered 0 false

-- the set of one relation, by its tag
abbrev pub scanned : Kind → ℕ → Result Covered ℕ
scanned kind tag = cond (nat_lt 63 tag) (Err no_such_relation) (Ok (covered (2 ^ tag) (output_sorted kind tag false)))

-- whether an operator is a merge join whose children are not both sorted
abbrev pub merges_unsorted : Kind → Bool → Bool
merges_unsorted Scan both-sorted = false
merges_unsorted IndexScan both-sorted = false
merges_unsorted HashJoin both-sorted = false
merges_unsorted MergeJoin both-sorted = not both-sorted
merges_unsorted NestedLoops both-sorted = false
merges_unsorted Filter both-sorted = false
merges_unsorted Sort both-sorted = false

-- the union of both sides, which must share no relation
abbrev pub joined : Kind → ℕ → Covered → Covered → Result Covered ℕ
joined kind tag left right =
    cond (bit_and left.relations right.relations == 0)
    (cond (merges_unsorted kind (left.sorted && right.sorted)) (Err child_unsorted)
    (Ok (covered (bit_or left.relations right.relations) (output_sorted kind tag left.sorted))))
    (Err sides_overlap)

-- the child's set as it is
abbrev pub passed : Kind → ℕ → Covered → Result Covered ℕ
passed kind tag child = Ok (covered child.relations (output_sorted kind tag child.sorted))

-- an operator over its left (or only) and its right child
abbrev pub operated : Kind → ℕ → Covered → Covered → Result Covered ℕ
operated Scan tag left right = scanned Scan tag
operated IndexScan tag left right = scanned IndexScan tag
operated HashJoin tag left right = joined HashJoin tag left right
operated MergeJoin tag left right = joined MergeJoin tag left right
operated NestedLoops tag left right = joined NestedLoops tag left right
operated Filter tag left right = passed Filter tag left
operated Sort tag left right = passed Sort tag left

-- The rule. Whether the children fit is looked at first.
abbrev pub cover_rule : Kind → ℕ → List Covered → Result Covered ℕ
cover_rule kind tag children =
    cond (length children == arity kind) (operated kind tag (slice_index_or children 0 no_child) (slice_index_or children 1 no_child)) (Err children_misfit)
