-- From the reading of a file to a memo in memory.
use Rattle.std.proofs.Common.{◌≡◌, ℕ, ◌<◌, get_or, Fits, w8, List, [], None, Ok, sym, ap, ◌∙◌, subst, inl, inr, arith}
use Rattle.std.specs.List.{AllByRecursion}
use Rattle.std.proofs.ByRecursion.{All-from_get_or}
use Rattle.spaces.specs.declared.space.Alternative.{Alternative}
use Rattle.spaces.specs.Spaces.{Lawful, Meaning}
use Rattle.memos.specs.declared.fields.Header.{Header}
use Rattle.memos.specs.declared.refusal.OpenRefusal.{OpenRefusal}
use Rattle.memos.specs.Memos.{Contents}
use Rattle.memos.specs.Rules.{first, header_end, header_rules, word_at}
use Rattle.memos.specs.Reading.{header_at, memo_of, passed, read_header, read_records, reading, root_at}
use Rattle.memos.specs.Slices.{slice_space, sliced}
use Rattle.memos.specs.Opens.{FirstFits, NotOpened, Opened, ReadAll, Stops, Storing}
use Rattle.memos.proofs.Answered.{passed_ok}
use Rattle.memos.proofs.Building.{memo_lawful}
use Rattle.memos.proofs.Format.{reading_encodes, reading_refused}

-- the bytes of a file, all at once
pub all_bytes : (file : List ℕ) → ((i : ℕ) → Fits w8 (get_or file i 0)) → AllByRecursion (λ b. b < 256) file
all_bytes file h = All-from_get_or (λ b. b < 256) file 0 (λ i _. omega (arith, h i))

module _ (file : List ℕ) (h : Header) (headed : read_header file ≡ Ok h) where
  parts : (first (header_rules file) ≡ None) × (header_at file ≡ h)
  parts = let p = passed_ok (first (header_rules file)) (Ok (header_at file)) h headed in (p.0, cc p.1)

  goes_on : reading file ≡ memo_of h.goals h.root (read_records 4096 file h.goals [] 0 h.end)
  goes_on =
      ap (λ o. passed o (memo_of (word_at file 1) (root_at file) (read_records 4096 file (word_at file 1) [] 0 (header_end file)))) parts.0
      ∙ ap (λ (x : Header). memo_of x.goals x.root (read_records 4096 file x.goals [] 0 x.end)) parts.1

  -- a record breaks a rule, or memory is wanting
  pub records_stop : (e : OpenRefusal) → Stops (FirstFits file h.goals h.end) e (read_records 4096 file h.goals [] 0 h.end) → Stops (Storing file) e (reading file)
  records_stop e (inl r) = inl (r.0, record { headed = parts.0; stored = subst (λ (x : Header). FirstFits file x.goals x.end) (sym parts.1) r.1 })
  records_stop e (inr r) = inr (goes_on ∙ ap (memo_of h.goals h.root) r)

  pub loaded : (items : List Alternative) (starts : List ℕ) → AllByRecursion (λ b. b < 256) file → ReadAll file h.goals h.end (sliced items starts) → Opened file (slice_space h.goals h.root items starts)
  loaded items starts all d =
      let m : Contents = record { goals = h.goals; root = h.root; records = d.records } in
      let is : reading file ≡ Ok m = goes_on ∙ ap (memo_of h.goals h.root) d.read in
      record { memo = m; encodes = reading_encodes file m all is; means = λ i. record { goals = h.goals; root = h.root; lists = λ k. d.built k i } }

-- what a file opens to is a space
pub opened_lawful : (file : List ℕ) (space : Meaning) → Opened file space → Lawful space
opened_lawful file space o = subst Lawful (sym o.means) (memo_lawful o.memo o.encodes.well)

pub not_opened : (file : List ℕ) (e : OpenRefusal) → AllByRecursion (λ b. b < 256) file → Stops (Storing file) e (reading file) → NotOpened file e
not_opened file e all (inl h) = inl h
not_opened file e all (inr h) = inr (reading_refused file e all h)
