-- The reading of the records, step by step.
use Rattle.std.proofs.Common.{◌≡◌, ℕ, zero, suc, ◌+◌, ◌-◌, ◌<◌, ◌≤◌, true, false, cond, List, [], ◌∷◌, ◌++◌, length, Some, None, Ok, Err, Result, ap, ◌∙◌, arith}
use Rattle.std.proofs.lemmas.Bool.{lt-ltb, le-ltb}
use Rattle.memos.specs.declared.refusal.OpenRefusal.{OpenRefusal}
use Rattle.memos.specs.declared.refusal.OpenRefusal.TheVariants.{ManyRecords, Repeated}
use Rattle.memos.specs.declared.fields.Record.{Record}
use Rattle.memos.specs.Memos.{listing}
use Rattle.memos.specs.Rules.{among, first, again_rules}
use Rattle.memos.specs.Reading.{passed, followed, read_alone, read_record, read_records}

module _ (file : List ℕ) (goals : ℕ) (sofar : List Record) (low at : ℕ) where
  pub record_good : (p : Record × ℕ) → read_alone file goals low at ≡ Ok p → among (listing sofar p.0.goal) p.0.alternative ≡ false → read_record file goals sofar low at ≡ Ok p
  record_good p e n =
      ap (λ x. followed x (λ p. passed (first (again_rules sofar at p.0)) (Ok p))) e ∙ ap (λ t. passed (cond t (Some (Repeated at)) None) (Ok p)) n

  pub record_again : (p : Record × ℕ) → read_alone file goals low at ≡ Ok p → among (listing sofar p.0.goal) p.0.alternative ≡ true → read_record file goals sofar low at ≡ Err (Repeated at)
  record_again p e n =
      ap (λ x. followed x (λ p. passed (first (again_rules sofar at p.0)) (Ok p))) e ∙ ap (λ t. passed (cond t (Some (Repeated at)) None) (Ok p)) n

  pub record_bad : (f : OpenRefusal) → read_alone file goals low at ≡ Err f → read_record file goals sofar low at ≡ Err f
  record_bad f e = ap (λ x. followed x (λ p. passed (first (again_rules sofar at p.0)) (Ok p))) e

  -- what follows a record
  abbrev Go : ℕ → Result (Record × ℕ) OpenRefusal → Result (List Record) OpenRefusal
  Go room (Ok p) = read_records room file goals (sofar ++ (p.0 ∷ [])) (p.0.goal + 1) p.1
  Go room (Err f) = Err f

  unrolled : (room : ℕ) → at < length file → read_records (suc room) file goals sofar low at ≡ Go room (read_record file goals sofar low at)
  unfolding read_records
  unrolled room l = ap (λ t. cond t (Go room (read_record file goals sofar low at)) (Ok sofar)) (lt-ltb at (length file) l)

  pub records_one : (room : ℕ) (p : Record × ℕ) → at < length file → read_record file goals sofar low at ≡ Ok p → read_records (suc room) file goals sofar low at ≡ read_records room file goals (sofar ++ (p.0 ∷ [])) (p.0.goal + 1) p.1
  records_one room p l e = unrolled room l ∙ ap (Go room) e

  pub records_next : (n : ℕ) (p : Record × ℕ) → n < 4096 → at < length file → read_record file goals sofar low at ≡ Ok p → read_records (4096 - n) file goals sofar low at ≡ read_records (4096 - (n + 1)) file goals (sofar ++ (p.0 ∷ [])) (p.0.goal + 1) p.1
  records_next n p h l e =
      let more : 4096 - n ≡ suc (4096 - (n + 1)) = omega arith in
      ap (λ room. read_records room file goals sofar low at) more ∙ records_one (4096 - (n + 1)) p l e

  pub records_fault : (n : ℕ) (f : OpenRefusal) → n < 4096 → at < length file → read_record file goals sofar low at ≡ Err f → read_records (4096 - n) file goals sofar low at ≡ Err f
  records_fault n f h l e =
      let more : 4096 - n ≡ suc (4096 - (n + 1)) = omega arith in
      ap (λ room. read_records room file goals sofar low at) more ∙ unrolled (4096 - (n + 1)) l ∙ ap (Go (4096 - (n + 1))) e

  pub records_full : (n : ℕ) → 4096 ≤ n → at < length file → read_records (4096 - n) file goals sofar low at ≡ Err (ManyRecords at)
  unfolding read_records
  records_full n h l =
      let e : 4096 - n ≡ 0 = omega arith in
      ap (λ room. read_records room file goals sofar low at) e ∙ ap (λ t. cond {A = Result (List Record) OpenRefusal} t (Err (ManyRecords at)) (Ok sofar)) (lt-ltb at (length file) l)

  pub records_done : (room : ℕ) → length file ≤ at → read_records room file goals sofar low at ≡ Ok sofar
  unfolding read_records
  records_done zero h = ap (λ t. cond {A = Result (List Record) OpenRefusal} t (Err (ManyRecords at)) (Ok sofar)) (le-ltb at (length file) h)
  records_done (suc room) h = ap (λ t. cond t (Go room (read_record file goals sofar low at)) (Ok sofar)) (le-ltb at (length file) h)
