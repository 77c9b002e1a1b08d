-- The rule of the engine that counts rows.
use Rattle.std.specs.Prelude.{ℕ, ◌+◌, ◌*◌, ◌/◌, cond, List, length, Some, None, Ok, Err, Option, Result, ◌==◌, nat_lt, slice_index}
use Rattle.std.specs.List.{slice_get}
use Rattle.spaces.specs.declared.kind.Kind.{Kind}
use Rattle.spaces.specs.declared.kind.Kind.TheVariants.{Filter, HashJoin, IndexScan, MergeJoin, NestedLoops, Scan, Sort}
use Rattle.spaces.specs.Kinds.{arity}
use Rattle.engines.specs.Faults.{children_misfit, no_such_relation, too_many_rows}

-- the most rows that a result has: 10^18
abbrev pub most_rows : ℕ
most_rows = 1000000000000000000

-- a number of rows, unless it is too large
abbrev pub counted : ℕ → Result ℕ ℕ
counted rows = cond (nat_lt most_rows rows) (Err too_many_rows) (Ok rows)

-- the same of a relation's rows, unless there is no such relation
abbrev pub counted_if_any : Option ℕ → Result ℕ ℕ
counted_if_any None = Err no_such_relation
counted_if_any (Some rows) = counted rows

-- the rows of the relation that a tag names
abbrev pub scanned : List ℕ → ℕ → Result ℕ ℕ
scanned relations tag = counted_if_any (slice_get relations tag)

-- an operator over a left (or only) and a right child of so many rows
abbrev pub operated : List ℕ → Kind → ℕ → ℕ → ℕ → Result ℕ ℕ
operated relations Scan tag left right = scanned relations tag
operated relations IndexScan tag left right = scanned relations tag
operated relations HashJoin tag left right = counted (left * right)
operated relations MergeJoin tag left right = counted (left * right)
operated relations NestedLoops tag left right = counted (left * right)
operated relations Filter tag left right = counted (left / (tag + 1))
operated relations Sort tag left right = counted left

-- The rule, where `relations` has the rows of the relations 0, 1, and so on. Whether the children fit is looked at first.
abbrev pub row_rule : List ℕ → Kind → ℕ → List ℕ → Result ℕ ℕ
row_rule relations kind tag children =
    cond (length children == arity kind) (operated relations kind tag (slice_index children 0) (slice_index children 1)) (Err children_misfit)
