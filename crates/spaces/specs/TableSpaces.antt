-- What a table means.
use Rattle.spaces.specs.declared.table.Table.{Table}
use Rattle.spaces.specs.Spaces.{Meaning}
use Rattle.spaces.specs.Tables.{held, tabled}

-- the space that a table is
abbrev pub table_space : Table → Meaning
table_space t = tabled t.goals t.root (held t.lists.items)
