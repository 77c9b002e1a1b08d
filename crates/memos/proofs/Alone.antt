-- One record: what is read is what is written.
use Rattle.std.proofs.Common.{◌≡◌, ℕ, ◌+◌, ◌<◌, ◌≤◌, Bool, true, false, ◌||◌, ltb, leb, List, ◌++◌, length, get_or, drop, is_some, Some, None, Option, Ok, Err, Result, MatchResult, unwrap_or, sym, refl, ap, ◌∙◌, subst, arith, lit<}
use Rattle.std.specs.List.{AllByRecursion}
use Rattle.std.proofs.lemmas.Bool.{or_parts, or_from, ltb-false, leb-true, leb-false, le-ltb, lt-leb, le-leb}
use Rattle.spaces.specs.Kinds.{arity}
use Rattle.memos.specs.declared.refusal.OpenRefusal.{OpenRefusal}
use Rattle.memos.specs.declared.fields.Fields.{Fields}
use Rattle.memos.specs.declared.fields.Record.{Record}
use Rattle.memos.specs.Memos.{provided, fields_of, bit_map, record_bytes, listing, Fitting}
use Rattle.memos.specs.Rules.{first, kind_or_scan, word_at, bit_at, end_from, fields_at, written_at, record_of, bad_children, bad_child, field_rules, again_rules, shape_rules}
use Rattle.memos.specs.Reading.{followed, read_alone, passed, read_record}
use Rattle.memos.proofs.Answered.{passed_ok, passed_none, followed_ok}
use Rattle.memos.proofs.Parts.{byte_at, some_provided, fields_read, fields_back}
use Rattle.memos.proofs.Rules.{first_all, all_first, goal_is, goal_back, kind_is, kind_back, tag_is, tag_back, children_are, children_back, arity_small, child_is, child_below, child_none, child_back, among_none, among_not}

pub record Step (file : List ℕ) (goals : ℕ) (sofar : List Record) (low at : ℕ) (r : Record) (next : ℕ) : Type 0 where
  pub bytes_are : drop at file ≡ record_bytes (fields_of low r) ++ drop next file
  pub rises : low ≤ r.goal + 1
  pub fits : Fitting goals r
  pub new : AllByRecursion (λ x. x ≡ r.alternative → ⊥) (listing sofar r.goal)

word_small : (file : List ℕ) (i : ℕ) (b : Bool) → AllByRecursion (λ b. b < 256) file → unwrap_or (provided b (word_at file i)) 0 < 65536
word_small file i true all = omega (arith, byte_at file i all, byte_at file (i + 1) all)
word_small file i false all = lit< tt

pub fields_sound : (goals low at : ℕ) (f : Fields) → unwrap_or f.tag 0 < 65536 → low ≤ goals → first (field_rules goals low at f) ≡ None → (f ≡ fields_of low (record_of low f)) × (low ≤ (record_of low f).goal + 1) × Fitting goals (record_of low f)
fields_sound goals low at f small w e =
    let r = record_of low f in
    let n = arity r.alternative.kind in
    let p = first_all (field_rules goals low at f) e in
    let g = goal_is goals low f.goal p.0 w in
    let k = kind_is f.kind p.1.0 in
    let c = children_are n (is_some f.left) (is_some f.right) (arity_small r.alternative.kind) p.1.1.0 in
    let t = tag_is f.tag p.1.1.1.0 in
    let b = or_parts (bad_child r.goal f.left) (bad_child r.goal f.right) p.1.1.1.1.0 in
    let l = child_is f.left (leb 1 n) c.0 in
    let m = child_is f.right (leb 2 n) c.1 in (
      (λ i. record { goal = g.0 i; kind = k i; tag = t i; left = l i; right = m i }),
      g.2,
      record {
        within = g.1;
        sound = record {
          left_below = λ h. child_below r.goal f.left b.0 (c.0 ∙ le-leb 1 n h);
          left_unused = λ h. child_none f.left (c.0 ∙ lt-leb 1 n (omega arith));
          right_below = λ h. child_below r.goal f.right b.1 (c.1 ∙ le-leb 2 n (omega arith));
          right_unused = λ h. child_none f.right (c.1 ∙ lt-leb 2 n (omega arith));
          tag_fits = small;
        };
      },
    )

fields_same : (goals low at : ℕ) (f : Fields) → low ≤ goals → first (field_rules goals low at f) ≡ None → f ≡ fields_of low (record_of low f)
fields_same goals low at f w e =
    let n = arity (record_of low f).alternative.kind in
    let p = first_all (field_rules goals low at f) e in
    let g = goal_is goals low f.goal p.0 w in
    let k = kind_is f.kind p.1.0 in
    let c = children_are n (is_some f.left) (is_some f.right) (arity_small (record_of low f).alternative.kind) p.1.1.0 in
    let t = tag_is f.tag p.1.1.1.0 in
    let l = child_is f.left (leb 1 n) c.0 in
    let m = child_is f.right (leb 2 n) c.1 in
    λ i. record { goal = g.0 i; kind = k i; tag = t i; left = l i; right = m i }

pub record Alone (file : List ℕ) (goals low at : ℕ) (r : Record) (next : ℕ) : Type 0 where
  pub within : r.goal < goals
  pub rises : low ≤ r.goal + 1
  pub ahead : at < next
  pub inside : next ≤ length file
  pub fits : r.alternative.tag < 65536 → Fitting goals r
  pub bytes_are : AllByRecursion (λ b. b < 256) file → drop at file ≡ record_bytes (fields_of low r) ++ drop next file
  pub tag_small : AllByRecursion (λ b. b < 256) file → r.alternative.tag < 65536

pub alone_sound : (file : List ℕ) (goals low at : ℕ) (p : Record × ℕ) → at < length file → low ≤ goals → read_alone file goals low at ≡ Ok p → Alone file goals low at p.0 p.1
alone_sound file goals low at p h w e =
    let m = get_or file at 0 in
    let f = written_at file at in
    let q0 = passed_ok (first (shape_rules file at)) (passed (first (field_rules goals low at f)) (Ok (record_of low f, end_from m at))) p e in
    let q1 = passed_ok (first (field_rules goals low at f)) (Ok (record_of low f, end_from m at)) p q0.1 in
    let s = first_all (shape_rules file at) q0.0 in
    let is : (record_of low f, end_from m at) ≡ p = cc q1.1 in
    let lt : m < 32 = omega (arith, ltb-false 31 m s.0) in
    let fin : end_from m at ≤ length file = ltb-false (length file) (end_from m at) s.1.0 in
    let t = first_all (field_rules goals low at f) q1.0 in
    let g = goal_is goals low f.goal t.0 w in
    let P : Record × ℕ → Type 0 = λ q. Alone file goals low at q.0 q.1 in
    subst P is (record {
      within = g.1;
      rises = g.2;
      ahead = omega arith;
      inside = fin;
      fits = λ small. (fields_sound goals low at f small w q1.0).2;
      bytes_are = λ all. fields_read file at h lt fin all ∙ ap (λ g. record_bytes g ++ drop (end_from m at) file) (fields_same goals low at f w q1.0);
      tag_small = word_small file _ (bit_at m 4);
    })

pub record_sound : (file : List ℕ) (goals : ℕ) (sofar : List Record) (low at : ℕ) (p : Record × ℕ) → AllByRecursion (λ b. b < 256) file → at < length file → low ≤ goals → read_record file goals sofar low at ≡ Ok p → Step file goals sofar low at p.0 p.1
record_sound file goals sofar low at p all h w e =
    let x = followed_ok (read_alone file goals low at) (λ q. passed (first (again_rules sofar at q.0)) (Ok q)) p e in
    let y = passed_ok (first (again_rules sofar at x.0.0)) (Ok x.0) p x.2 in
    let a = alone_sound file goals low at x.0 h w x.1 in
    let n = first_all (again_rules sofar at x.0.0) y.0 in
    let P : Record × ℕ → Type 0 = λ q. Step file goals sofar low at q.0 q.1 in
    let same : x.0 ≡ p = cc y.1 in
    subst P same (record { bytes_are = a.bytes_are all; rises = a.rises; fits = a.fits (a.tag_small all); new = among_none (listing sofar x.0.0.goal) x.0.0.alternative n.0 })

fields_complete : (goals low at : ℕ) (r : Record) → Fitting goals r → low ≤ r.goal + 1 → (first (field_rules goals low at (fields_of low r)) ≡ None) × (record_of low (fields_of low r) ≡ r)
fields_complete goals low at r fit w =
    let k = r.alternative.kind in
    let s = fit.sound in
    let pg = goal_back goals low r.goal fit.within w in
    let pk = kind_back k in
    let pt = tag_back r.alternative.tag in
    let pl = child_back r.goal r.alternative.left (leb 1 (arity k)) (λ e. s.left_below (leb-true 1 (arity k) e)) (λ e. s.left_unused (omega (arith, leb-false 1 (arity k) e))) in
    let pr = child_back r.goal r.alternative.right (leb 2 (arity k)) (λ e. s.right_below (omega (arith, leb-true 2 (arity k) e, arity_small k))) (λ e. s.right_unused (omega (arith, leb-false 2 (arity k) e))) in
    let f = fields_of low r in
    let is : record_of low f ≡ r = λ i. record { goal = pg.1 i; alternative = record { kind = pk.1 i; tag = pt.1 i; left = pl.1 i; right = pr.1 i } } in
    let c2 : bad_children (arity (kind_or_scan (unwrap_or f.kind 0))) (is_some f.left) (is_some f.right) ≡ false =
    ap (λ x. bad_children (arity x) (is_some f.left) (is_some f.right)) pk.1
    ∙ ap (λ x. bad_children (arity k) x (is_some f.right)) (some_provided (leb 1 (arity k)) r.alternative.left)
    ∙ ap (λ x. bad_children (arity k) (leb 1 (arity k)) x) (some_provided (leb 2 (arity k)) r.alternative.right)
    ∙ children_back k in
    let c4 : (bad_child (record_of low f).goal f.left || bad_child (record_of low f).goal f.right) ≡ false =
    ap (λ (x : Record). bad_child x.goal f.left || bad_child x.goal f.right) is ∙ or_from _ _ pl.0 pr.0 in
    (all_first (field_rules goals low at f) (pg.0, (pk.0, (c2, (pt.0, (c4, tt))))), is)

pub record_complete : (file : List ℕ) (goals : ℕ) (sofar : List Record) (low at : ℕ) (r : Record) (rest : List ℕ) → Fitting goals r → low ≤ r.goal + 1 → AllByRecursion (λ x. x ≡ r.alternative → ⊥) (listing sofar r.goal) → drop at file ≡ record_bytes (fields_of low r) ++ rest → (read_record file goals sofar low at ≡ Ok (r, end_from (bit_map (fields_of low r)) at)) × (drop (end_from (bit_map (fields_of low r)) at) file ≡ rest) × (end_from (bit_map (fields_of low r)) at ≤ length file)
record_complete file goals sofar low at r rest fit w new e =
    let f = fields_of low r in
    let b = fields_back file f at rest e in
    let c = fields_complete goals low at r fit w in
    let fa : written_at file at ≡ f = ap (λ m. fields_at file m at) b.map_is ∙ b.fields_are in
    let h0 : ltb 31 (get_or file at 0) ≡ false = le-ltb 31 _ (omega (arith, b.map_is, b.small)) in
    let h1 : ltb (length file) (end_from (get_or file at 0) at) ≡ false = ap (λ m. ltb (length file) (end_from m at)) b.map_is ∙ le-ltb (length file) _ b.ends in
    let shape : first (shape_rules file at) ≡ None = all_first (shape_rules file at) (h0, (h1, tt)) in
    let inner : passed (first (field_rules goals low at (written_at file at))) (Ok (record_of low (written_at file at), end_from (get_or file at 0) at)) ≡ Ok (r, end_from (bit_map f) at) =
    ap (λ x. passed (first (field_rules goals low at x)) (Ok (record_of low x, end_from (get_or file at 0) at))) fa
    ∙ passed_none _ _ c.0
    ∙ ap (λ x. Ok (x, end_from (get_or file at 0) at)) c.1
    ∙ ap (λ m. Ok (r, end_from m at)) b.map_is in
    let alone : read_alone file goals low at ≡ Ok (r, end_from (bit_map f) at) = passed_none _ _ shape ∙ inner in
    let again : first (again_rules sofar at r) ≡ None = all_first (again_rules sofar at r) (among_not _ _ new, tt) in
    (ap (λ x. followed x (λ p. passed (first (again_rules sofar at p.0)) (Ok p))) alone ∙ passed_none (first (again_rules sofar at r)) (Ok (r, end_from (bit_map f) at)) again, b.rest_is, b.ends)

-- ---------- the reading of a record whose shape is right

both : {X Y E : Type 0} (o : Option E) (x : X) (y : Y) → MatchResult (passed o (Ok x)) (λ r. passed {X = X × Y} o (Ok (x, y)) ≡ Ok (r, y)) (λ e. passed {X = X × Y} o (Ok (x, y)) ≡ Err e)
both None x y = refl
both (Some e) x y = refl

pub alone_read : (file : List ℕ) (goals low at next : ℕ) (f : Fields) (r : Result Record OpenRefusal) → (first (shape_rules file at) ≡ None) × (f ≡ written_at file at) × (next ≡ end_from (get_or file at 0) at) → r ≡ passed (first (field_rules goals low at f)) (Ok (record_of low f)) → MatchResult r (λ r. read_alone file goals low at ≡ Ok (r, next)) (λ e. read_alone file goals low at ≡ Err e)
alone_read file goals low at next f r shape is =
    let o = first (field_rules goals low at f) in
    let by_fields : read_alone file goals low at ≡ passed o (Ok (record_of low f, next)) =
    passed_none (first (shape_rules file at)) (passed (first (field_rules goals low at (written_at file at))) (Ok (record_of low (written_at file at), end_from (get_or file at 0) at))) shape.0
    ∙ (λ i. passed (first (field_rules goals low at (sym shape.1 i))) (Ok (record_of low (sym shape.1 i), sym shape.2 i))) in
    let P : Result Record OpenRefusal → Result (Record × ℕ) OpenRefusal → Type 0 = λ x y. MatchResult x (λ r. y ≡ Ok (r, next)) (λ e. y ≡ Err e) in
    subst (λ x. P x (read_alone file goals low at)) (sym is) (subst (P (passed o (Ok (record_of low f)))) (sym by_fields) (both o (record_of low f) next))
