-- The format: a file is one memo, or it is refused for one reason.
use Rattle.std.proofs.Common.{◌≡◌, ℕ, ◌+◌, ◌-◌, ◌<◌, ◌≤◌, ◌⊎◌, List, [], ◌++◌, length, take, drop, Some, None, Ok, Err, Option, Result, sym, refl, ap, ◌∙◌, subst, inl, inr, append_assoc, append-nil, zero-le, arith, length-append, length-drop}
use Rattle.std.specs.List.{AllByRecursion}
use Rattle.std.proofs.lemmas.Bool.{ltb-false}
use Rattle.std.proofs.lemmas.List.{drop_all, take_all, take-append-le}
use Rattle.memos.specs.declared.refusal.OpenRefusal.{OpenRefusal}
use Rattle.memos.specs.declared.fields.Record.{Record}
use Rattle.memos.specs.Memos.{Contents, WellFormed, encode, header_bytes, records_bytes}
use Rattle.memos.specs.Refusals.{place_of}
use Rattle.memos.specs.Rules.{first, header_end, header_rules, low_after, record_rules, word_at}
use Rattle.memos.specs.Reading.{memo_of, passed, read_records, reading, root_at}
use Rattle.memos.specs.Opens.{Cut, Encodes, Refused, Settled}
use Rattle.memos.proofs.Answered.{passed_none}
use Rattle.memos.proofs.Rules.{first_all, first_holds}
use Rattle.memos.proofs.Heads.{Head, header_sound, header_complete}
use Rattle.memos.proofs.Runs.{breaks_first, first_breaks, Outcome, outcome, Reached, reached, stopped}
use Rattle.memos.proofs.Steps.{records_done}

-- the reading, where the header breaks no rule
headed_reading : (file : List ℕ) → first (header_rules file) ≡ None → reading file ≡ memo_of (word_at file 1) (root_at file) (read_records 4096 file (word_at file 1) [] 0 (header_end file))
headed_reading file h = passed_none (first (header_rules file)) (memo_of (word_at file 1) (root_at file) (read_records 4096 file (word_at file 1) [] 0 (header_end file))) h

-- ---------- what the reading answers stands in the file

-- an answer of the reading is right
abbrev Right : List ℕ → Result Contents OpenRefusal → Type 0
Right file (Ok m) = Encodes file m
Right file (Err e) = Refused file e

-- the records behind a good header
module _ (file : List ℕ) (headed : first (header_rules file) ≡ None) (h : Head file (word_at file 1) (root_at file)) (answer : Result (List Record) OpenRefusal) (o : Outcome 4096 file (word_at file 1) [] 0 (header_end file) answer) where
  found : Contents
  found = record { goals = word_at file 1; root = root_at file; records = o.more }

  front : file ≡ encode found ++ drop o.place file
  unfolding found
  front =
      h.bytes_are
      ∙ ap (λ ys. header_bytes (word_at file 1) (root_at file) ++ ys) o.bytes_are
      ∙ sym (append_assoc (header_bytes (word_at file 1) (root_at file)) (records_bytes 0 o.more) (drop o.place file))

  long : length file ≡ length (encode found) + length (drop o.place file)
  long = ap length front ∙ length-append (encode found) (drop o.place file)

  well : WellFormed found
  unfolding found
  well = record {
    some = h.some;
    few = h.few;
    root_within = h.root_within;
    short = omega (arith, long, h.short);
    narrow = o.few;
    rising = o.rising;
    fitting = o.fitting;
    apart = o.apart;
  }

  right_records : Right file (memo_of (word_at file 1) (root_at file) answer)
  unfolding found
  right_records =
      elim o.ends [
        | inl x ↦ (let is : answer ≡ Ok o.more = x.1 in
            subst (λ a. Right file (memo_of (word_at file 1) (root_at file) a)) (sym is)
            (record { bytes_are = front ∙ ap (λ ys. encode found ++ ys) (drop_all o.place file x.0) ∙ append-nil (encode found); well = well }))
        | inr x ↦ (let is : answer ≡ Err x.0 = x.2 in
            let here : o.place ≡ length (encode found) = omega (arith, long, length-drop o.place file, x.1) in
            subst (λ a. Right file (memo_of (word_at file 1) (root_at file) a)) (sym is)
            (inr (record {
              headed = headed;
              before = found;
              well = well;
              rest = drop o.place file;
              more = omega (arith, length-drop o.place file, x.1);
              bytes_are = front;
              breaks = ap (λ n. first (record_rules (word_at file 1) o.more file n)) (sym here) ∙ breaks_first file (word_at file 1) o.more o.place x.0 x.3;
            })))
      ]

right : (file : List ℕ) → AllByRecursion (λ b. b < 256) file → Right file (reading file)
right file all =
    let rs = read_records 4096 file (word_at file 1) [] 0 (header_end file) in
    let P : Option OpenRefusal → Type 0 = λ o. first (header_rules file) ≡ o → Right file (passed o (memo_of (word_at file 1) (root_at file) rs)) in
    let q : P (first (header_rules file)) = elim (first (header_rules file)) as P [
      | None ↦ (λ h. right_records file h (header_sound file all h) rs (outcome 4096 file (word_at file 1) [] 0 (header_end file) all zero-le (λ g. tt)))
      | Some e ↦ (λ h. inl h)
    ] in
    q refl

pub reading_encodes : (file : List ℕ) (m : Contents) → AllByRecursion (λ b. b < 256) file → reading file ≡ Ok m → Encodes file m
reading_encodes file m all e = subst (Right file) e (right file all)

pub reading_refused : (file : List ℕ) (e : OpenRefusal) → AllByRecursion (λ b. b < 256) file → reading file ≡ Err e → Refused file e
reading_refused file e all h = subst (Right file) h (right file all)

-- ---------- what stands in the file is what the reading answers

-- a file that begins with a memo
module _ (file : List ℕ) (m : Contents) (wf : WellFormed m) (rest : List ℕ) (short : length file ≤ 60000) (is : file ≡ encode m ++ rest) where
  head : (first (header_rules file) ≡ None) × (word_at file 1 ≡ m.goals) × (root_at file ≡ m.root) × (drop (header_end file) file ≡ records_bytes 0 m.records ++ rest)
  head =
      header_complete file m.goals m.root (records_bytes 0 m.records ++ rest) wf.some wf.few wf.root_within short (is ∙ append_assoc (header_bytes m.goals m.root) (records_bytes 0 m.records) rest)

  behind : Reached 4096 file m.goals [] 0 (header_end file) m.records rest
  behind = reached m.records 4096 file m.goals [] 0 (header_end file) rest head.3 wf.narrow wf.rising wf.fitting wf.apart

  goes_on : reading file ≡ memo_of m.goals m.root (read_records (4096 - length m.records) file m.goals m.records (low_after 0 m.records) behind.place)
  goes_on =
      headed_reading file head.0
      ∙ ap (λ g. memo_of g (root_at file) (read_records 4096 file g [] 0 (header_end file))) head.1
      ∙ ap (λ r. memo_of m.goals r (read_records 4096 file m.goals [] 0 (header_end file))) head.2
      ∙ ap (memo_of m.goals m.root) behind.same

pub encodes_reading : (file : List ℕ) (m : Contents) → Encodes file m → reading file ≡ Ok m
encodes_reading file m e =
    let wf = e.well in
    let short : length file ≤ 60000 = subst (λ xs. length xs ≤ 60000) (sym e.bytes_are) wf.short in
    let is : file ≡ encode m ++ [] = e.bytes_are ∙ sym (append-nil (encode m)) in
    let b = behind file m wf [] short is in
    let past : length file - b.place ≡ 0 = sym (length-drop b.place file) ∙ ap length b.rest_is in
    goes_on file m wf [] short is ∙ ap (memo_of m.goals m.root) (records_done file m.goals m.records (low_after 0 m.records) b.place (4096 - length m.records) (omega arith))

pub refused_reading : (file : List ℕ) (e : OpenRefusal) → Refused file e → reading file ≡ Err e
refused_reading file e (inl h) = ap (λ o. passed o (memo_of (word_at file 1) (root_at file) (read_records 4096 file (word_at file 1) [] 0 (header_end file)))) h
refused_reading file e (inr r) =
    let m = r.before in
    let short : length file ≤ 60000 = ltb-false 60000 (length file) (first_all (header_rules file) r.headed).0 in
    let b = behind file m r.well r.rest short r.bytes_are in
    let long : length file ≡ length (encode m) + length r.rest = ap length r.bytes_are ∙ length-append (encode m) r.rest in
    let ahead : length file - b.place ≡ length r.rest = sym (length-drop b.place file) ∙ ap length b.rest_is in
    let more : 0 < length r.rest = r.more in
    let here : length (encode m) ≡ b.place = omega arith in
    let breaks = first_breaks file m.goals m.records b.place e (ap (λ n. first (record_rules m.goals m.records file n)) (sym here) ∙ r.breaks) in
    goes_on file m r.well r.rest short r.bytes_are ∙ ap (memo_of m.goals m.root) (stopped file m.goals m.records (low_after 0 m.records) b.place e (omega arith) breaks)

-- ---------- the law

refused_cut : (file : List ℕ) (e : OpenRefusal) → Refused file e → Cut file e
refused_cut file e (inl h) = inl (first_holds (λ x. place_of x ≡ Some 0) (header_rules file) e (refl, (refl, (refl, (refl, (refl, tt))))) h)
refused_cut file e (inr r) =
    let m = r.before in
    let at = length (encode m) in
    let long : length file ≡ at + length r.rest = ap length r.bytes_are ∙ length-append (encode m) r.rest in
    let is = first_holds (λ x. place_of x ≡ Some at) (record_rules m.goals m.records file at) e (refl, (refl, (refl, (refl, (refl, (refl, (refl, (refl, (refl, tt))))))))) r.breaks in
    inr (at, m, is, omega (arith, long, r.more), ap (take at) r.bytes_are ∙ take-append-le at (encode m) r.rest (omega arith) ∙ take_all at (encode m) (omega arith), r.well)

pub settled : (file : List ℕ) → AllByRecursion (λ b. b < 256) file → Settled file
settled file all = record {
  answered = elim (reading file) as (λ a. reading file ≡ a → ((m : Contents) × Encodes file m) ⊎ ((e : OpenRefusal) × Refused file e)) [
    | Ok m ↦ (λ is. inl (m, reading_encodes file m all is))
    | Err e ↦ (λ is. inr (e, reading_refused file e all is))
  ] refl;
  one_memo = λ m n a b. cc (encodes_reading file m a, encodes_reading file n b);
  one_refusal = λ e f a b. cc (refused_reading file e a, refused_reading file f b);
  not_both = λ m e a b. cc (refused_reading file e b, encodes_reading file m a);
  places = refused_cut file;
}
