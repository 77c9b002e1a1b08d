-- What a view means.
use Rattle.std.specs.Prelude.{[], vec_items}
use Rattle.spaces.specs.Spaces.{Meaning}
use Rattle.memos.specs.declared.memo.Memo.{Memo}
use Rattle.memos.specs.Slices.{slice_space}

abbrev pub view : Memo → Meaning
view s = slice_space s.goals s.root (vec_items s.lists.items) (vec_items s.lists.starts)

-- the space of no goals
abbrev pub no_goals : Meaning
no_goals = record { goals = 0; root = 0; lists = λ _. [] }
