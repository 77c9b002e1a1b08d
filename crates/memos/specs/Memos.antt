-- A memo as data, the bytes that it is written in, and the rules that it keeps.
use Rattle.std.specs.Prelude.{ℕ, ◌+◌, ◌-◌, ◌*◌, ◌/◌, ◌%◌, ◌<◌, ◌≤◌, Bool, true, false, cond, List, [], ◌∷◌, ◌++◌, map, length, is_some, Some, None, filter, Option, ◌==◌, nat_eq, nat_le}
use Rattle.std.specs.List.{AllByRecursion}
use Rattle.spaces.specs.declared.space.Alternative.{Alternative}
use Rattle.spaces.specs.Kinds.{arity, code}
use Rattle.spaces.specs.Spaces.{Apart, Meaning, Sound}
use Rattle.memos.specs.declared.fields.Fields.{Fields}
use Rattle.memos.specs.declared.fields.Record.{Record}

-- the contents of a memo: how many goals, the root, and the alternatives with their goals
pub record Contents : Type 0 where
  pub goals : ℕ
  pub root : ℕ
  pub records : List Record

-- ---------- its bytes

abbrev pub digit : Bool → ℕ
digit true = 1
digit false = 0

-- a field of two bytes, low byte first; nothing where it is not written
abbrev pub word : Option ℕ → List ℕ
word None = []
word (Some n) = n % 256 ∷ (n / 256 ∷ [])

-- a field of one byte
abbrev pub byte : Option ℕ → List ℕ
byte None = []
byte (Some n) = n ∷ []

-- a field is not written with the value d that its absence gives
abbrev pub unless : ℕ → ℕ → Option ℕ
unless d n = cond (n == d) None (Some n)

-- a field is written where b says so
abbrev pub provided : Bool → ℕ → Option ℕ
provided b n = cond b (Some n) None

-- which fields of a record are written, where `low` is one above the goal of the record before, or 0 in the first record
abbrev pub fields_of : ℕ → Record → Fields
fields_of low r = record {
  goal = cond (r.goal + 1 == low) None (Some r.goal);
  kind = unless 0 (code r.alternative.kind);
  tag = unless 0 r.alternative.tag;
  left = provided (nat_le 1 (arity r.alternative.kind)) r.alternative.left;
  right = provided (nat_le 2 (arity r.alternative.kind)) r.alternative.right;
}

-- the bit map of a record: bit 0 goal, 1 kind, 2 tag, 3 left, 4 right
abbrev pub bit_map : Fields → ℕ
bit_map f =
    digit (is_some f.goal) + 2 * (digit (is_some f.kind) + 2 * (digit (is_some f.tag) + 2 * (digit (is_some f.left) + 2 * digit (is_some f.right))))

abbrev pub field_bytes : Fields → List ℕ
field_bytes f = word f.goal ++ (byte f.kind ++ (word f.tag ++ (word f.left ++ word f.right)))

abbrev pub record_bytes : Fields → List ℕ
record_bytes f = bit_map f ∷ field_bytes f

abbrev pub records_bytes : ℕ → List Record → List ℕ
records_bytes low [] = []
records_bytes low (r ∷ rs) = record_bytes (fields_of low r) ++ records_bytes (r.goal + 1) rs

-- a bit map with bit 0, and bit 1 where the root is written; how many goals; the root, unless it is the last goal
abbrev pub header_bytes : ℕ → ℕ → List ℕ
header_bytes goals root = (1 + 2 * digit (is_some (unless (goals - 1) root))) ∷ (word (Some goals) ++ word (unless (goals - 1) root))

-- the file that a memo is written in
abbrev pub encode : Contents → List ℕ
encode m = header_bytes m.goals m.root ++ records_bytes 0 m.records

-- ---------- its rules

-- the alternatives of goal g, in the order of the records
abbrev pub listing : List Record → ℕ → List Alternative
listing rs g = map (λ r. r.alternative) (filter (λ r. nat_eq r.goal g) rs)

-- goals never fall: each is at least the one before
abbrev pub Rising : ℕ → List Record → Type 0
Rising low [] = Unit {0}
Rising low (r ∷ rs) = (low ≤ r.goal + 1) × Rising (r.goal + 1) rs

-- a record is for one of the goals, and its children are below it
pub record Fitting (goals : ℕ) (r : Record) : Type 0 where
  pub within : r.goal < goals
  pub sound : Sound r.goal r.alternative

pub record WellFormed (m : Contents) : Type 0 where
  pub some : 1 ≤ m.goals
  pub few : m.goals ≤ 4096
  pub root_within : m.root < m.goals
  pub short : length (encode m) ≤ 60000
  pub narrow : length m.records ≤ 4096
  pub rising : Rising 0 m.records
  pub fitting : AllByRecursion (Fitting m.goals) m.records
  pub apart : (g : ℕ) → Apart (listing m.records g)

-- ---------- its meaning

-- the space that a memo is
abbrev pub space_of : Contents → Meaning
space_of m = record { goals = m.goals; root = m.root; lists = listing m.records }
