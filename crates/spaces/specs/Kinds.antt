-- The kinds of operator: number, letter and number of children.
use Rattle.std.specs.Prelude.{ℕ, cond, Some, None, Option, ◌==◌}
use Rattle.spaces.specs.declared.kind.Kind.{Kind}
use Rattle.spaces.specs.declared.kind.Kind.TheVariants.{Filter, HashJoin, IndexScan, MergeJoin, NestedLoops, Scan, Sort}

abbrev pub code : Kind → ℕ
code Scan = 0
code IndexScan = 1
code HashJoin = 2
code MergeJoin = 3
code NestedLoops = 4
code Filter = 5
code Sort = 6

abbrev pub arity : Kind → ℕ
arity Scan = 0
arity IndexScan = 0
arity HashJoin = 2
arity MergeJoin = 2
arity NestedLoops = 2
arity Filter = 1
arity Sort = 1

-- the letters S, I, H, M, L, F and O
abbrev pub letter : Kind → ℕ
letter Scan = 83
letter IndexScan = 73
letter HashJoin = 72
letter MergeJoin = 77
letter NestedLoops = 76
letter Filter = 70
letter Sort = 79

-- the kind that has a mark, by number or by letter
abbrev pub marked : (Kind → ℕ) → ℕ → Option Kind
marked mark n =
    cond (n == mark Scan) (Some Scan)
    (cond (n == mark IndexScan) (Some IndexScan)
    (cond (n == mark HashJoin) (Some HashJoin)
    (cond (n == mark MergeJoin) (Some MergeJoin)
    (cond (n == mark NestedLoops) (Some NestedLoops)
    (cond (n == mark Filter) (Some Filter)
    (cond (n == mark Sort) (Some Sort) None))))))

abbrev pub kind_of : ℕ → Option Kind
kind_of n = marked code n

abbrev pub lettered : ℕ → Option Kind
lettered n = marked letter n
