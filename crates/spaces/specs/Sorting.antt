-- The order rules of the operators.
use Rattle.std.specs.Prelude.{ℕ, Bool, true, false}
use Rattle.spaces.specs.declared.kind.Kind.{Kind}
use Rattle.spaces.specs.declared.kind.Kind.TheVariants.{Filter, HashJoin, IndexScan, MergeJoin, NestedLoops, Scan, Sort}

-- whether the output of an operator of a kind with a tag is sorted, where `left` tells it of its left (or only) child
abbrev pub output_sorted : Kind → ℕ → Bool → Bool
output_sorted Scan tag left = false
output_sorted IndexScan tag left = true
output_sorted HashJoin tag left = false
output_sorted MergeJoin tag left = true
output_sorted NestedLoops tag left = left
output_sorted Filter tag left = left
output_sorted Sort tag left = true

-- whether its left (or only) child has to be sorted, where `asked` tells it of its own output
abbrev pub wants_left : Kind → ℕ → Bool → Bool
wants_left Scan tag asked = false
wants_left IndexScan tag asked = false
wants_left HashJoin tag asked = false
wants_left MergeJoin tag asked = true
wants_left NestedLoops tag asked = asked
wants_left Filter tag asked = asked
wants_left Sort tag asked = false

-- whether its right child has to be sorted
abbrev pub wants_right : Kind → ℕ → Bool
wants_right Scan tag = false
wants_right IndexScan tag = false
wants_right HashJoin tag = false
wants_right MergeJoin tag = true
wants_right NestedLoops tag = false
wants_right Filter tag = false
wants_right Sort tag = false
