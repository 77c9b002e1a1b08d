-- What a prepared space means.
use Rattle.spaces.specs.Spaces.{Meaning}
use Rattle.spaces.specs.TableSpaces.{table_space}
use Rattle.prepared.specs.declared.prepared.Prepared.{Prepared}

abbrev pub table : Prepared → Meaning
table p = table_space p.table
