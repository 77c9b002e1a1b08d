-- Tables: the lists of a space, kept as they are.
use Rattle.std.specs.Prelude.{ℕ, List, [], map, Vec, vec_items, slice_index_or}
use Rattle.std.specs.declared.alloc.Global.{Global}
use Rattle.spaces.specs.declared.space.Alternative.{Alternative}
use Rattle.spaces.specs.Spaces.{Meaning}

-- the lists that stand in a vector of vectors
abbrev pub held : List (Vec Alternative Global) → List (List Alternative)
held vs = map vec_items vs

-- the space whose goal g has list number g, and none past the last list
abbrev pub tabled : ℕ → ℕ → List (List Alternative) → Meaning
tabled goals root lists = record { goals = goals; root = root; lists = λ g. slice_index_or lists g [] }
