-- All records of a file: what the reading answers, and that it answers what stands there.
use Rattle.std.proofs.Common.{◌≡◌, ℕ, zero, suc, ◌+◌, ◌-◌, ◌<◌, ◌≤◌, Bool, true, false, cond, ltb, leb, ◌⊎◌, List, [], ◌∷◌, ◌++◌, length, get_or, drop, Some, Ok, Err, Result, sym, refl, ap, ◌∙◌, subst, inl, inr, append_assoc, append-nil, suc-le-suc, zero-le, arith, length-drop}
use Rattle.std.specs.List.{AllByRecursion}
use Rattle.std.proofs.lemmas.Bool.{ltb-false, ltb-true, le-leb, lt-leb, leb-true, leb-false}
use Rattle.spaces.specs.Spaces.{Apart}
use Rattle.memos.specs.declared.refusal.OpenRefusal.{OpenRefusal}
use Rattle.memos.specs.declared.refusal.OpenRefusal.TheVariants.{ManyRecords}
use Rattle.memos.specs.declared.fields.Record.{Record}
use Rattle.memos.specs.Memos.{fields_of, bit_map, record_bytes, records_bytes, Rising, listing, Fitting}
use Rattle.memos.specs.Rules.{first, low_after, end_from, written_at, record_of, shape_rules, field_rules, again_rules, record_rules}
use Rattle.memos.specs.Reading.{passed, read_record, read_records}
use Rattle.memos.proofs.Answered.{refusal, refusal_err, refusal_passed, refusal_followed, or_else}
use Rattle.memos.proofs.Rules.{first_append}
use Rattle.memos.proofs.Alone.{record_sound, record_complete}
use Rattle.memos.proofs.Listings.{apart_more, new_from_apart}
use Rattle.memos.proofs.Steps.{records_one, records_fault, records_full}

-- ---------- the rules on one record, as its reading tries them

pub record_first : (file : List ℕ) (goals : ℕ) (sofar : List Record) (low at : ℕ) → refusal (read_record file goals sofar low at) ≡ first (shape_rules file at ++ (field_rules goals low at (written_at file at) ++ again_rules sofar at (record_of low (written_at file at))))
record_first file goals sofar low at =
    let f = written_at file at in
    let r = record_of low f in
    let again = again_rules sofar at r in
    refusal_followed (first (shape_rules file at)) (first (field_rules goals low at f)) (r, end_from (get_or file at 0) at) (λ p. passed (first (again_rules sofar at p.0)) (Ok p))
    ∙ ap (λ o. or_else (first (shape_rules file at)) (or_else (first (field_rules goals low at f)) o)) (refusal_passed (first again) (r, end_from (get_or file at 0) at))
    ∙ ap (or_else (first (shape_rules file at))) (sym (first_append (field_rules goals low at f) again))
    ∙ sym (first_append (shape_rules file at) (field_rules goals low at f ++ again))

-- there is no room for one more record, or it breaks a rule of its own
abbrev pub Breaks : ℕ → List ℕ → ℕ → List Record → ℕ → ℕ → ℕ → OpenRefusal → Type 0
Breaks room file goals sofar n low at e = ((room ≤ n) × (ManyRecords at ≡ e)) ⊎ ((n < room) × (read_record file goals sofar low at ≡ Err e))

pub breaks_first : (file : List ℕ) (goals : ℕ) (sofar : List Record) (at : ℕ) (e : OpenRefusal) → Breaks 4096 file goals sofar (length sofar) (low_after 0 sofar) at e → first (record_rules goals sofar file at) ≡ Some e
breaks_first file goals sofar at e b =
    let T = shape_rules file at ++ (field_rules goals (low_after 0 sofar) at (written_at file at) ++ again_rules sofar at (record_of (low_after 0 sofar) (written_at file at))) in
    elim b [
      | inl h ↦ ap (λ t. cond t (Some (ManyRecords at)) (first T)) (le-leb 4096 (length sofar) h.0) ∙ ap Some h.1
      | inr h ↦ ap (λ t. cond t (Some (ManyRecords at)) (first T)) (lt-leb 4096 (length sofar) h.0) ∙ sym (record_first file goals sofar (low_after 0 sofar) at) ∙ ap refusal h.1
    ]

pub first_breaks : (file : List ℕ) (goals : ℕ) (sofar : List Record) (at : ℕ) (e : OpenRefusal) → first (record_rules goals sofar file at) ≡ Some e → Breaks 4096 file goals sofar (length sofar) (low_after 0 sofar) at e
first_breaks file goals sofar at e h =
    let T = shape_rules file at ++ (field_rules goals (low_after 0 sofar) at (written_at file at) ++ again_rules sofar at (record_of (low_after 0 sofar) (written_at file at))) in
    let P : Bool → Type 0 = λ t. leb 4096 (length sofar) ≡ t → cond t (Some (ManyRecords at)) (first T) ≡ Some e → Breaks 4096 file goals sofar (length sofar) (low_after 0 sofar) at e in
    let q : P (leb 4096 (length sofar)) = elim (leb 4096 (length sofar)) as P [
      | true ↦ (λ t x. inl (leb-true 4096 (length sofar) t, cc))
      | false ↦ (λ t x. inr (leb-false 4096 (length sofar) t, refusal_err (read_record file goals sofar (low_after 0 sofar) at) e (record_first file goals sofar (low_after 0 sofar) at ∙ x)))
    ] in
    q refl h

-- ---------- from the file to the records

-- behind n records more the reading ends at the end of the file, or it stops at a record
abbrev pub Ends : ℕ → List ℕ → ℕ → List Record → ℕ → ℕ → ℕ → Result (List Record) OpenRefusal → Type 0
Ends room file goals sofar n low at answer =
    ((length file ≤ at) × (answer ≡ Ok sofar)) ⊎ ((e : OpenRefusal) × (at < length file) × (answer ≡ Err e) × Breaks room file goals sofar n low at e)

pub record Outcome (room : ℕ) (file : List ℕ) (goals : ℕ) (sofar : List Record) (low at : ℕ) (answer : Result (List Record) OpenRefusal) : Type 0 where
  pub more : List Record
  pub place : ℕ
  pub bytes_are : drop at file ≡ records_bytes low more ++ drop place file
  pub few : length more ≤ room
  pub rising : Rising low more
  pub fitting : AllByRecursion (Fitting goals) more
  pub apart : (g : ℕ) → Apart (listing (sofar ++ more) g)
  pub ends : Ends room file goals (sofar ++ more) (length more) (low_after low more) place answer

-- nothing more is read
stays : (room : ℕ) (file : List ℕ) (goals : ℕ) (sofar : List Record) (low at : ℕ) (answer : Result (List Record) OpenRefusal) → ((g : ℕ) → Apart (listing sofar g)) → Ends room file goals sofar 0 low at answer → Outcome room file goals sofar low at answer
stays room file goals sofar low at answer h e = record {
  more = [];
  place = at;
  bytes_are = refl;
  few = zero-le;
  rising = tt;
  fitting = tt;
  apart = subst (λ rs. (g : ℕ) → Apart (listing rs g)) (sym (append-nil sofar)) h;
  ends = subst (λ rs. Ends room file goals rs 0 low at answer) (sym (append-nil sofar)) e;
}

one_more : (room : ℕ) (file : List ℕ) (goals : ℕ) (sofar : List Record) (n low at : ℕ) (answer : Result (List Record) OpenRefusal) → Ends room file goals sofar n low at answer → Ends (suc room) file goals sofar (suc n) low at answer
one_more room file goals sofar n low at answer e =
    elim e [
      | inl h ↦ inl h
      | inr h ↦ inr (h.0, h.1, h.2, elim h.3 [ inl b ↦ inl (suc-le-suc b.0, b.1) | inr b ↦ inr (suc-le-suc b.0, b.1) ])
    ]

pub outcome : (room : ℕ) (file : List ℕ) (goals : ℕ) (sofar : List Record) (low at : ℕ) → AllByRecursion (λ b. b < 256) file → low ≤ goals → ((g : ℕ) → Apart (listing sofar g)) → Outcome room file goals sofar low at (read_records room file goals sofar low at)
unfolding read_records
outcome zero file goals sofar low at bytes w h =
    let P : Bool → Type 0 = λ t. ltb at (length file) ≡ t → Outcome zero file goals sofar low at (cond {A = Result (List Record) OpenRefusal} t (Err (ManyRecords at)) (Ok sofar)) in
    let q : P (ltb at (length file)) = elim (ltb at (length file)) as P [
      | true ↦ (λ t. stays zero file goals sofar low at (Err (ManyRecords at)) h (inr (ManyRecords at, ltb-true at (length file) t, refl, inl (zero-le, refl))))
      | false ↦ (λ t. stays zero file goals sofar low at (Ok sofar) h (inl (ltb-false at (length file) t, refl)))
    ] in
    q refl
outcome (suc room) file goals sofar low at bytes w h =
    let K : Result (Record × ℕ) OpenRefusal → Result (List Record) OpenRefusal = λ x. elim x [
      | Ok p ↦ read_records room file goals (sofar ++ (p.0 ∷ [])) (p.0.goal + 1) p.1
      | Err f ↦ Err f
    ] in
    let P : Bool → Type 0 = λ t. ltb at (length file) ≡ t → Outcome (suc room) file goals sofar low at (cond t (K (read_record file goals sofar low at)) (Ok sofar)) in
    let Q : Result (Record × ℕ) OpenRefusal → Type 0 = λ x. read_record file goals sofar low at ≡ x → Outcome (suc room) file goals sofar low at (K x) in
    let q : P (ltb at (length file)) = elim (ltb at (length file)) as P [
      | true ↦ (λ t.
          let l : at < length file = ltb-true at (length file) t in
          let s : Q (read_record file goals sofar low at) = elim (read_record file goals sofar low at) as Q [
            | Ok p ↦ (λ is.
                let st = record_sound file goals sofar low at p bytes l w is in
                let wi : p.0.goal < goals = st.fits.within in
                let ih = outcome room file goals (sofar ++ (p.0 ∷ [])) (p.0.goal + 1) p.1 bytes (omega arith) (apart_more sofar p.0 h st.new) in
                let all : (sofar ++ (p.0 ∷ [])) ++ ih.more ≡ sofar ++ (p.0 ∷ ih.more) = append_assoc sofar (p.0 ∷ []) ih.more in
                record {
                  more = p.0 ∷ ih.more;
                  place = ih.place;
                  bytes_are = st.bytes_are ∙ ap (λ ys. record_bytes (fields_of low p.0) ++ ys) ih.bytes_are ∙ sym (append_assoc (record_bytes (fields_of low p.0)) (records_bytes (p.0.goal + 1) ih.more) (drop ih.place file));
                  few = suc-le-suc ih.few;
                  rising = (st.rises, ih.rising);
                  fitting = (st.fits, ih.fitting);
                  apart = subst (λ rs. (g : ℕ) → Apart (listing rs g)) all ih.apart;
                  ends = subst (λ rs. Ends (suc room) file goals rs (suc (length ih.more)) (low_after (p.0.goal + 1) ih.more) ih.place (K (Ok p))) all (one_more room file goals ((sofar ++ (p.0 ∷ [])) ++ ih.more) (length ih.more) (low_after (p.0.goal + 1) ih.more) ih.place (K (Ok p)) ih.ends);
                })
            | Err f ↦ (λ is. stays (suc room) file goals sofar low at (Err f) h (inr (f, l, refl, inr (suc-le-suc zero-le, is))))
          ] in
          s refl)
      | false ↦ (λ t. stays (suc room) file goals sofar low at (Ok sofar) h (inl (ltb-false at (length file) t, refl)))
    ] in
    q refl

-- ---------- from the records to the file

-- behind records that stand in the file, the reading goes on with the rest
pub record Reached (room : ℕ) (file : List ℕ) (goals : ℕ) (sofar : List Record) (low at : ℕ) (more : List Record) (rest : List ℕ) : Type 0 where
  pub place : ℕ
  pub same : read_records room file goals sofar low at ≡ read_records (room - length more) file goals (sofar ++ more) (low_after low more) place
  pub rest_is : drop place file ≡ rest

before_end : (file : List ℕ) (at x : ℕ) (xs : List ℕ) → drop at file ≡ x ∷ xs → at < length file
before_end file at x xs e = let z : length file - at ≡ suc (length xs) = sym (length-drop at file) ∙ ap length e in omega arith

pub reached : (more : List Record) (room : ℕ) (file : List ℕ) (goals : ℕ) (sofar : List Record) (low at : ℕ) (rest : List ℕ) → drop at file ≡ records_bytes low more ++ rest → length more ≤ room → Rising low more → AllByRecursion (Fitting goals) more → ((g : ℕ) → Apart (listing (sofar ++ more) g)) → Reached room file goals sofar low at more rest
reached [] room file goals sofar low at rest e n ri fs apart =
    let z : room ≡ room - 0 = omega arith in
    record { place = at; same = λ i. read_records (z i) file goals (sym (append-nil sofar) i) low at; rest_is = e }
reached (r ∷ rs) zero file goals sofar low at rest e n ri fs apart = absurd (omega arith)
reached (r ∷ rs) (suc room) file goals sofar low at rest e n ri fs apart =
    let next = end_from (bit_map (fields_of low r)) at in
    let all : (sofar ++ (r ∷ [])) ++ rs ≡ sofar ++ (r ∷ rs) = append_assoc sofar (r ∷ []) rs in
    let left : room - length rs ≡ suc room - length (r ∷ rs) = omega arith in
    let e' : drop at file ≡ record_bytes (fields_of low r) ++ (records_bytes (r.goal + 1) rs ++ rest) = e ∙ append_assoc (record_bytes (fields_of low r)) (records_bytes (r.goal + 1) rs) rest in
    let rc = record_complete file goals sofar low at r (records_bytes (r.goal + 1) rs ++ rest) fs.0 ri.0 (new_from_apart sofar r rs (apart r.goal)) e' in
    let ih = reached rs room file goals (sofar ++ (r ∷ [])) (r.goal + 1) next rest rc.1 (omega arith) ri.1 fs.1 (subst (λ l. (g : ℕ) → Apart (listing l g)) (sym all) apart) in
    let step : read_records (suc room) file goals sofar low at ≡ read_records room file goals (sofar ++ (r ∷ [])) (r.goal + 1) next = records_one file goals sofar low at room (r, next) (before_end file at _ _ e') rc.0 in
    let then_on : read_records (room - length rs) file goals ((sofar ++ (r ∷ [])) ++ rs) (low_after (r.goal + 1) rs) ih.place ≡ read_records (suc room - length (r ∷ rs)) file goals (sofar ++ (r ∷ rs)) (low_after (r.goal + 1) rs) ih.place = λ i. read_records (left i) file goals (all i) (low_after (r.goal + 1) rs) ih.place in
    record { place = ih.place; same = step ∙ ih.same ∙ then_on; rest_is = ih.rest_is }

pub stopped : (file : List ℕ) (goals : ℕ) (sofar : List Record) (low at : ℕ) (e : OpenRefusal) → at < length file → Breaks 4096 file goals sofar (length sofar) low at e → read_records (4096 - length sofar) file goals sofar low at ≡ Err e
stopped file goals sofar low at e l b =
    elim b [
      | inl h ↦ records_full file goals sofar low at (length sofar) h.0 l ∙ ap Err h.1
      | inr h ↦ records_fault file goals sofar low at (length sofar) e h.0 l h.1
    ]
