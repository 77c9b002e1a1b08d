-- The faults of the engines, by number.
use Rattle.std.specs.Prelude.{ℕ, Ok, Err, Result}
use Rattle.engines.specs.declared.fault.Fault.{Fault}
use Rattle.engines.specs.declared.fault.Fault.TheVariants.{ChildUnsorted, ChildrenMisfit, NoSuchRelation, SidesOverlap, TooManyRows}

-- a scan of a relation that there is not
abbrev pub no_such_relation : ℕ
no_such_relation = 1

-- a result of more than 10^18 rows
abbrev pub too_many_rows : ℕ
too_many_rows = 2

-- a join of two sides that share a relation
abbrev pub sides_overlap : ℕ
sides_overlap = 3

-- a merge join with a child that is not sorted
abbrev pub child_unsorted : ℕ
child_unsorted = 4

-- children whose number is not the kind's
abbrev pub children_misfit : ℕ
children_misfit = 7

-- the number of a fault
abbrev pub number_of : Fault → ℕ
number_of NoSuchRelation = no_such_relation
number_of TooManyRows = too_many_rows
number_of SidesOverlap = sides_overlap
number_of ChildUnsorted = child_unsorted
number_of ChildrenMisfit = children_misfit

-- a result, or the number of its fault
abbrev pub numbered : {V : Type 0} → Result V Fault → Result V ℕ
numbered (Ok v) = Ok v
numbered (Err fault) = Err (number_of fault)
