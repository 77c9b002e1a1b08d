-- The rules that a file can break, in the order of the refusals, as tables of tests. A file is read by places: `at` is where a record's bit map stands.
use Rattle.std.specs.Prelude.{ℕ, zero, suc, ◌+◌, ◌-◌, ◌*◌, ◌/◌, ◌%◌, Bool, false, cond, not, ◌&&◌, ◌||◌, List, [], ◌∷◌, ◌++◌, length, is_some, Some, None, Option, ◌==◌, nat_le, nat_lt, slice_index}
use Rattle.std.specs.Option.{unwrap_or}
use Rattle.spaces.specs.declared.kind.Kind.{Kind}
use Rattle.spaces.specs.declared.kind.Kind.TheVariants.{Scan}
use Rattle.spaces.specs.declared.space.Alternative.{Alternative}
use Rattle.spaces.specs.Kinds.{arity, code, kind_of}
use Rattle.memos.specs.declared.fields.Fields.{Fields}
use Rattle.memos.specs.declared.fields.Record.{Record}
use Rattle.memos.specs.declared.refusal.OpenRefusal.{OpenRefusal}
use Rattle.memos.specs.declared.refusal.OpenRefusal.TheVariants.{ChildBits, ChildOrder, GoalCount, GoalOrder, HeaderBits, HeaderEnds, LongFile, ManyRecords, NoKind, RecordBits, RecordEnds, Repeated, RootWritten, ZeroTag}
use Rattle.memos.specs.Memos.{listing, provided}

-- the refusal of the first rule of a table that is broken
abbrev pub first : List (Bool × OpenRefusal) → Option OpenRefusal
first [] = None
first (r ∷ rs) = cond r.0 (Some r.1) (first rs)

-- ---------- what stands where

abbrev pub word_at : List ℕ → ℕ → ℕ
word_at file i = slice_index file i + 256 * slice_index file (i + 1)

-- whether the bit of weight d stands
abbrev pub bit_at : ℕ → ℕ → Bool
bit_at map d = map / d % 2 == 1

-- where each field of a record begins, by its bit map, and where the record ends
abbrev pub kind_from : ℕ → ℕ → ℕ
kind_from map at = at + 1 + 2 * (map % 2)

abbrev pub tag_from : ℕ → ℕ → ℕ
tag_from map at = kind_from map at + map / 2 % 2

abbrev pub left_from : ℕ → ℕ → ℕ
left_from map at = tag_from map at + 2 * (map / 4 % 2)

abbrev pub right_from : ℕ → ℕ → ℕ
right_from map at = left_from map at + 2 * (map / 8 % 2)

abbrev pub end_from : ℕ → ℕ → ℕ
end_from map at = right_from map at + 2 * (map / 16 % 2)

abbrev pub fields_at : List ℕ → ℕ → ℕ → Fields
fields_at file map at = record {
  goal = provided (bit_at map 1) (word_at file (at + 1));
  kind = provided (bit_at map 2) (slice_index file (kind_from map at));
  tag = provided (bit_at map 4) (word_at file (tag_from map at));
  left = provided (bit_at map 8) (word_at file (left_from map at));
  right = provided (bit_at map 16) (word_at file (right_from map at));
}

-- the fields of the record at a place
abbrev pub written_at : List ℕ → ℕ → Fields
written_at file at = fields_at file (slice_index file at) at

-- a number that no kind has is refused, whatever kind stands for it here
abbrev pub kind_or_scan : ℕ → Kind
kind_or_scan n = unwrap_or (kind_of n) Scan

-- what the fields say, with what the absence of each gives
abbrev pub record_of : ℕ → Fields → Record
record_of low f = record {
  goal = unwrap_or f.goal (low - 1);
  alternative = record { kind = kind_or_scan (unwrap_or f.kind 0); tag = unwrap_or f.tag 0; left = unwrap_or f.left 0; right = unwrap_or f.right 0 };
}

-- one above the goal of the last record, and `low` where there is none
abbrev pub low_after : ℕ → List Record → ℕ
low_after low [] = low
low_after low (r ∷ rs) = low_after (r.goal + 1) rs

-- ---------- the tests

abbrev pub bad_goal : ℕ → ℕ → Option ℕ → Bool
bad_goal goals low None = low == 0
bad_goal goals low (Some g) = nat_le goals g || nat_lt g low

abbrev pub bad_kind : Option ℕ → Bool
bad_kind None = false
bad_kind (Some k) = k == 0 || nat_lt 6 k

-- by the number of children, and whether the left and the right one are written
abbrev pub bad_children : ℕ → Bool → Bool → Bool
bad_children zero left right = left || right
bad_children (suc zero) left right = not left || right
bad_children (suc (suc n)) left right = not left || not right

abbrev pub bad_tag : Option ℕ → Bool
bad_tag None = false
bad_tag (Some t) = t == 0

abbrev pub bad_child : ℕ → Option ℕ → Bool
bad_child goal None = false
bad_child goal (Some c) = nat_le goal c

abbrev pub same : Alternative → Alternative → Bool
same a b = code a.kind == code b.kind && (a.tag == b.tag && (a.left == b.left && a.right == b.right))

abbrev pub among : List Alternative → Alternative → Bool
among [] a = false
among (x ∷ xs) a = same x a || among xs a

-- ---------- the tables

abbrev pub header_end : List ℕ → ℕ
header_end file = 3 + 2 * (slice_index file 0 / 2 % 2)

abbrev pub header_rules : List ℕ → List (Bool × OpenRefusal)
header_rules file =
    (nat_lt 60000 (length file), LongFile)
    ∷ ((nat_lt 0 (length file) && (slice_index file 0 % 2 == 0 || nat_lt 3 (slice_index file 0)), HeaderBits)
    ∷ ((nat_lt (length file) (header_end file), HeaderEnds)
    ∷ ((word_at file 1 == 0 || nat_lt 4096 (word_at file 1), GoalCount)
    ∷ ((bit_at (slice_index file 0) 2 && nat_le (word_at file 1 - 1) (word_at file 3), RootWritten)
    ∷ []))))

abbrev pub shape_rules : List ℕ → ℕ → List (Bool × OpenRefusal)
shape_rules file at = (nat_lt 31 (slice_index file at), RecordBits at) ∷ ((nat_lt (length file) (end_from (slice_index file at) at), RecordEnds at) ∷ [])

abbrev pub field_rules : ℕ → ℕ → ℕ → Fields → List (Bool × OpenRefusal)
field_rules goals low at f =
    (bad_goal goals low f.goal, GoalOrder at)
    ∷ ((bad_kind f.kind, NoKind at)
    ∷ ((bad_children (arity (kind_or_scan (unwrap_or f.kind 0))) (is_some f.left) (is_some f.right), ChildBits at)
    ∷ ((bad_tag f.tag, ZeroTag at)
    ∷ ((bad_child (record_of low f).goal f.left || bad_child (record_of low f).goal f.right, ChildOrder at)
    ∷ []))))

abbrev pub again_rules : List Record → ℕ → Record → List (Bool × OpenRefusal)
again_rules sofar at r = (among (listing sofar r.goal) r.alternative, Repeated at) ∷ []

-- the rules on a record behind the records `sofar`
abbrev pub record_rules : ℕ → List Record → List ℕ → ℕ → List (Bool × OpenRefusal)
record_rules goals sofar file at =
    (nat_le 4096 (length sofar), ManyRecords at)
    ∷ (shape_rules file at
    ++ (field_rules goals (low_after 0 sofar) at (written_at file at)
    ++ again_rules sofar at (record_of (low_after 0 sofar) (written_at file at))))
