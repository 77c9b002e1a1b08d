-- The reading of a file, record by record.
use Rattle.std.specs.Prelude.{ℕ, zero, suc, ◌+◌, ◌-◌, cond, List, [], ◌∷◌, ◌++◌, length, Some, None, Ok, Err, Option, Result, nat_lt, slice_index}
use Rattle.std.specs.Option.{unwrap_or}
use Rattle.memos.specs.declared.fields.Header.{Header}
use Rattle.memos.specs.declared.fields.Record.{Record}
use Rattle.memos.specs.declared.refusal.OpenRefusal.{OpenRefusal}
use Rattle.memos.specs.declared.refusal.OpenRefusal.TheVariants.{ManyRecords}
use Rattle.memos.specs.Memos.{Contents, provided}
use Rattle.memos.specs.Rules.{again_rules, bit_at, end_from, field_rules, first, header_end, header_rules, record_of, shape_rules, word_at, written_at}

-- a refusal where there is one, else what follows
abbrev pub passed : {X E : Type 0} → Option E → Result X E → Result X E
passed None r = r
passed (Some f) r = Err f

abbrev pub followed : {X Y E : Type 0} → Result X E → (X → Result Y E) → Result Y E
followed (Ok x) k = k x
followed (Err e) k = Err e

-- a record by itself, and where it ends
abbrev pub read_alone : List ℕ → ℕ → ℕ → ℕ → Result (Record × ℕ) OpenRefusal
read_alone file goals low at =
    passed (first (shape_rules file at)) (passed (first (field_rules goals low at (written_at file at))) (Ok (record_of low (written_at file at), end_from (slice_index file at) at)))

-- the same behind the records `sofar`
abbrev pub read_record : List ℕ → ℕ → List Record → ℕ → ℕ → Result (Record × ℕ) OpenRefusal
read_record file goals sofar low at = followed (read_alone file goals low at) (λ p. passed (first (again_rules sofar at p.0)) (Ok p))

-- the records from `at` on, of which there may be `room`. It is no `abbrev`: at 4,096 it would unfold.
unfoldable pub read_records : ℕ → List ℕ → ℕ → List Record → ℕ → ℕ → Result (List Record) OpenRefusal
read_records zero file goals sofar low at = cond (nat_lt at (length file)) (Err (ManyRecords at)) (Ok sofar)
read_records (suc room) file goals sofar low at =
    cond (nat_lt at (length file))
    (elim (read_record file goals sofar low at) [
      | Ok p ↦ read_records room file goals (sofar ++ (p.0 ∷ [])) (p.0.goal + 1) p.1
      | Err f ↦ Err f
    ])
    (Ok sofar)

abbrev pub root_at : List ℕ → ℕ
root_at file = unwrap_or (provided (bit_at (slice_index file 0) 2) (word_at file 3)) (word_at file 1 - 1)

abbrev pub header_at : List ℕ → Header
header_at file = record { goals = word_at file 1; root = root_at file; end = header_end file }

abbrev pub read_header : List ℕ → Result Header OpenRefusal
read_header file = passed (first (header_rules file)) (Ok (header_at file))

abbrev pub memo_of : ℕ → ℕ → Result (List Record) OpenRefusal → Result Contents OpenRefusal
memo_of goals root (Ok rs) = Ok (record { goals = goals; root = root; records = rs })
memo_of goals root (Err e) = Err e

abbrev pub reading : List ℕ → Result Contents OpenRefusal
reading file =
    passed (first (header_rules file))
    (memo_of (word_at file 1) (root_at file) (read_records 4096 file (word_at file 1) [] 0 (header_end file)))
