-- What the opening of a file answers, and the laws of the format.
use Rattle.std.specs.Prelude.{◌≡◌, ◌≢◌, ℕ, ◌<◌, ◌⊎◌, List, [], ◌∷◌, ◌++◌, length, take, Some, None, Ok, Err, Result}
use Rattle.spaces.specs.declared.space.Alternative.{Alternative}
use Rattle.spaces.specs.Spaces.{Meaning}
use Rattle.memos.specs.declared.fields.Record.{Record}
use Rattle.memos.specs.declared.refusal.OpenRefusal.{OpenRefusal}
use Rattle.memos.specs.declared.refusal.OpenRefusal.TheVariants.{NoMemory}
use Rattle.memos.specs.Memos.{Contents, WellFormed, encode, listing, space_of}
use Rattle.memos.specs.Reading.{read_records}
use Rattle.memos.specs.Refusals.{place_of}
use Rattle.memos.specs.Rules.{first, header_end, header_rules, record_rules, word_at}

-- ---------- the format: files and memos

-- a file is the bytes of a memo that keeps the rules
pub record Encodes (file : List ℕ) (m : Contents) : Type 0 where
  pub bytes_are : file ≡ encode m
  pub well : WellFormed m

-- The header breaks no rule. The file begins with a memo that keeps the rules, and the first rule that is broken by the record behind it gives the refusal.
pub record RefusedAt (file : List ℕ) (e : OpenRefusal) : Type 0 where
  pub headed : first (header_rules file) ≡ None
  pub before : Contents
  pub well : WellFormed before
  pub rest : List ℕ
  pub more : 0 < length rest
  pub bytes_are : file ≡ encode before ++ rest
  pub breaks : first (record_rules before.goals before.records file (length (encode before))) ≡ Some e

-- a file is refused by the first rule that its header breaks, else by the first rule that its first bad record breaks
abbrev pub Refused : List ℕ → OpenRefusal → Type 0
Refused file e = (first (header_rules file) ≡ Some e) ⊎ RefusedAt file e

-- cut at the place of its refusal, a file is the bytes of a memo that keeps the rules; in the header the place is 0
abbrev pub Cut : List ℕ → OpenRefusal → Type 0
Cut file e =
    (place_of e ≡ Some 0) ⊎ ((at : ℕ) × (m : Contents) × (place_of e ≡ Some at) × (at < length file) × (take at file ≡ encode m) × WellFormed m)

-- a file is either one memo or refused for one reason
pub record Settled (file : List ℕ) : Type 0 where
  pub answered : ((m : Contents) × Encodes file m) ⊎ ((e : OpenRefusal) × Refused file e)
  pub one_memo : (m n : Contents) → Encodes file m → Encodes file n → m ≡ n
  pub one_refusal : (e f : OpenRefusal) → Refused file e → Refused file f → e ≡ f
  pub not_both : (m : Contents) (e : OpenRefusal) → Encodes file m → Refused file e → ⊥
  pub places : (e : OpenRefusal) → Refused file e → Cut file e

-- ---------- the answers

-- a space is the memo that the file is the bytes of
pub record Opened (file : List ℕ) (space : Meaning) : Type 0 where
  pub memo : Contents
  pub encodes : Encodes file memo
  pub means : space ≡ space_of memo

-- the first record breaks no rule, so there is something to store
abbrev pub FirstFits : List ℕ → ℕ → ℕ → Type 0
FirstFits file goals from = (from < length file) × (first (record_rules goals [] file from) ≡ None)

-- Memory can be wanting for a file whose header and first record break no rule, and for no other.
pub record Storing (file : List ℕ) : Type 0 where
  pub headed : first (header_rules file) ≡ None
  pub stored : FirstFits file (word_at file 1) (header_end file)

-- a file is not opened for want of memory, or because it is refused
abbrev pub NotOpened : List ℕ → OpenRefusal → Type 0
NotOpened file e = ((e ≡ NoMemory) × Storing file) ⊎ Refused file e

-- ---------- inside

-- the reading stops so, or memory is wanting, where W holds
abbrev pub Stops : {X : Type 0} → Type 0 → OpenRefusal → Result X OpenRefusal → Type 0
Stops W e r = ((e ≡ NoMemory) × W) ⊎ (r ≡ Err e)

-- The alternative of a record stands behind those of its goal. The other goals' lists are as they were.
pub record Stored (old new : ℕ → List Alternative) (r : Record) : Type 0 where
  pub own : new r.goal ≡ old r.goal ++ (r.alternative ∷ [])
  pub others : (g : ℕ) → r.goal ≢ g → new g ≡ old g

-- the lists are those of the records
abbrev pub Built : List Record → (ℕ → List Alternative) → Type 0
Built records lists = (g : ℕ) → lists g ≡ listing records g

-- all records from a place on were read, and the lists hold their alternatives, goal by goal
pub record ReadAll (file : List ℕ) (goals from : ℕ) (lists : ℕ → List Alternative) : Type 0 where
  pub records : List Record
  pub read : read_records 4096 file goals [] 0 from ≡ Ok records
  pub built : Built records lists
