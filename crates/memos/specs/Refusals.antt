-- The number and the place of each refusal to open a file. The place is where a record's bit map stands, and 0 in the header; want of memory is no fault of the file.
use Rattle.std.specs.Prelude.{ℕ, Some, None, Option}
use Rattle.memos.specs.declared.refusal.OpenRefusal.{OpenRefusal}
use Rattle.memos.specs.declared.refusal.OpenRefusal.TheVariants.{ChildBits, ChildOrder, GoalCount, GoalOrder, HeaderBits, HeaderEnds, LongFile, ManyRecords, NoKind, NoMemory, RecordBits, RecordEnds, Repeated, RootWritten, ZeroTag}

abbrev pub number_of : OpenRefusal → Option ℕ
number_of LongFile = Some 1
number_of HeaderBits = Some 2
number_of HeaderEnds = Some 3
number_of GoalCount = Some 4
number_of RootWritten = Some 5
number_of (ManyRecords at) = Some 6
number_of (RecordBits at) = Some 7
number_of (RecordEnds at) = Some 8
number_of (GoalOrder at) = Some 9
number_of (NoKind at) = Some 10
number_of (ChildBits at) = Some 11
number_of (ZeroTag at) = Some 12
number_of (ChildOrder at) = Some 13
number_of (Repeated at) = Some 14
number_of NoMemory = None

abbrev pub place_of : OpenRefusal → Option ℕ
place_of LongFile = Some 0
place_of HeaderBits = Some 0
place_of HeaderEnds = Some 0
place_of GoalCount = Some 0
place_of RootWritten = Some 0
place_of (ManyRecords at) = Some at
place_of (RecordBits at) = Some at
place_of (RecordEnds at) = Some at
place_of (GoalOrder at) = Some at
place_of (NoKind at) = Some at
place_of (ChildBits at) = Some at
place_of (ZeroTag at) = Some at
place_of (ChildOrder at) = Some at
place_of (Repeated at) = Some at
place_of NoMemory = None
