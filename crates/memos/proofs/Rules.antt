-- The rules on a record's fields, and what they say of the record.
use Rattle.std.proofs.Common.{◌≡◌, ℕ, zero, suc, ◌+◌, ◌-◌, ◌<◌, ◌≤◌, Bool, true, false, cond, not, eqb, ltb, leb, List, [], ◌∷◌, ◌++◌, is_some, Some, None, Option, unwrap_or, sym, refl, ap, ◌∙◌, subst, inl, inr, arith, lit≤}
use Rattle.std.specs.List.{AllByRecursion}
use Rattle.std.proofs.lemmas.Bool.{cases_lt, both_ways, or_parts, or_from, ltb-false, leb-false, eqb-false, eqb-true, le-ltb, lt-leb, ne_eqb, eq-eqb, not-false, true≢false, and_parts, and_from}
use Rattle.spaces.specs.declared.kind.Kind.{Kind}
use Rattle.spaces.specs.declared.kind.Kind.TheVariants.{Scan, IndexScan, HashJoin, MergeJoin, NestedLoops, Filter, Sort}
use Rattle.spaces.specs.declared.space.Alternative.{Alternative}
use Rattle.spaces.specs.Kinds.{code, arity}
use Rattle.memos.specs.declared.refusal.OpenRefusal.{OpenRefusal}
use Rattle.memos.specs.Memos.{unless, provided}
use Rattle.memos.specs.Rules.{first, kind_or_scan, bad_goal, bad_kind, bad_children, bad_tag, bad_child, same, among}
use Rattle.memos.proofs.Answered.{or_else}

pub first_none : (b : Bool) (f : OpenRefusal) (rs : List (Bool × OpenRefusal)) → cond b (Some f) (first rs) ≡ None → (b ≡ false) × (first rs ≡ None)
first_none true f rs e = cc
first_none false f rs e = (refl, e)

pub first_pass : (b : Bool) (f : OpenRefusal) (rs : List (Bool × OpenRefusal)) → b ≡ false → first rs ≡ None → cond b (Some f) (first rs) ≡ None
first_pass b f rs h e = ap (λ t. cond t (Some f) (first rs)) h ∙ e

-- no rule of a table is broken exactly where each test is false
pub first_all : (rs : List (Bool × OpenRefusal)) → first rs ≡ None → AllByRecursion (λ r. r.0 ≡ false) rs
first_all [] e = tt
first_all (r ∷ rs) e = let p = first_none r.0 r.1 rs e in (p.0, first_all rs p.1)

pub all_first : (rs : List (Bool × OpenRefusal)) → AllByRecursion (λ r. r.0 ≡ false) rs → first rs ≡ None
all_first [] h = refl
all_first (r ∷ rs) h = first_pass r.0 r.1 rs h.0 (all_first rs h.1)

-- the rules of two tables, one after the other
pub first_append : (xs ys : List (Bool × OpenRefusal)) → first (xs ++ ys) ≡ or_else (first xs) (first ys)
first_append [] ys = refl
first_append (r ∷ rs) ys =
    elim r.0 as (λ b. cond b (Some r.1) (first (rs ++ ys)) ≡ or_else (cond b (Some r.1) (first rs)) (first ys)) [
      | true ↦ refl
      | false ↦ first_append rs ys
    ]

-- what holds of every refusal of a table holds of the first
pub first_holds : (P : OpenRefusal → Type 0) (rs : List (Bool × OpenRefusal)) (e : OpenRefusal) → AllByRecursion (λ r. P r.1) rs → first rs ≡ Some e → P e
first_holds P [] e h is = cc
first_holds P (r ∷ rs) e h is =
    let Q : Bool → Type 0 = λ b. cond b (Some r.1) (first rs) ≡ Some e → P e in
    let q : Q r.0 = elim r.0 as Q [
      | true ↦ (λ x. let same : r.1 ≡ e = cc in subst P same h.0)
      | false ↦ (λ x. first_holds P rs e h.1 x)
    ] in
    q is

-- ---------- the goal

pub goal_is : (goals low : ℕ) (o : Option ℕ) → bad_goal goals low o ≡ false → low ≤ goals → (o ≡ cond (eqb (unwrap_or o (low - 1) + 1) low) None (Some (unwrap_or o (low - 1)))) × (unwrap_or o (low - 1) < goals) × (low ≤ unwrap_or o (low - 1) + 1)
goal_is goals low None h w =
    let n : low ≡ 0 → ⊥ = eqb-false low 0 h in
    let p : 0 < low = omega arith in
    let e : low - 1 + 1 ≡ low = omega arith in
    (sym (ap (λ t. cond t None (Some (low - 1))) (eq-eqb (low - 1 + 1) low e)), omega arith, omega arith)
goal_is goals low (Some g) h w =
    let p = or_parts (leb goals g) (ltb g low) h in
    let a : g < goals = leb-false goals g p.0 in
    let b : low ≤ g = ltb-false g low p.1 in
    (sym (ap (λ t. cond t None (Some g)) (ne_eqb (g + 1) low (λ e. omega arith))), a, omega arith)

pub goal_back : (goals low g : ℕ) → g < goals → low ≤ g + 1 → (bad_goal goals low (cond (eqb (g + 1) low) None (Some g)) ≡ false) × (unwrap_or (cond (eqb (g + 1) low) None (Some g)) (low - 1) ≡ g)
goal_back goals low g a b =
    let P : Bool → Type 0 = λ t. eqb (g + 1) low ≡ t → (bad_goal goals low (cond t None (Some g)) ≡ false) × (unwrap_or (cond t None (Some g)) (low - 1) ≡ g) in
    let q : P (eqb (g + 1) low) = elim (eqb (g + 1) low) as P [
      | true ↦ (λ e. let s : g + 1 ≡ low = eqb-true (g + 1) low e in (ne_eqb low 0 (λ z. omega arith), omega arith))
      | false ↦ (λ e. let s : g + 1 ≡ low → ⊥ = eqb-false (g + 1) low e in let ne : low ≤ g = elim (cases_lt low (g + 1)) [ inl l ↦ omega arith | inr z ↦ absurd (s (omega arith)) ] in (or_from (leb goals g) (ltb g low) (lt-leb goals g a) (le-ltb g low ne), refl))
    ] in
    q refl

-- ---------- the kind

code_kind : (n : ℕ) → n ≤ 6 → code (kind_or_scan n) ≡ n
code_kind zero h = refl
code_kind (suc zero) h = refl
code_kind (suc (suc zero)) h = refl
code_kind (suc (suc (suc zero))) h = refl
code_kind (suc (suc (suc (suc zero)))) h = refl
code_kind (suc (suc (suc (suc (suc zero))))) h = refl
code_kind (suc (suc (suc (suc (suc (suc zero)))))) h = refl
code_kind (suc (suc (suc (suc (suc (suc (suc n))))))) h = absurd (omega arith)

pub kind_code : (k : Kind) → kind_or_scan (code k) ≡ k
kind_code Scan = refl
kind_code IndexScan = refl
kind_code HashJoin = refl
kind_code MergeJoin = refl
kind_code NestedLoops = refl
kind_code Filter = refl
kind_code Sort = refl

unless_some : (d n : ℕ) → (n ≡ d → ⊥) → unless d n ≡ Some n
unless_some d n h = ap (λ t. cond t None (Some n)) (ne_eqb n d h)

pub kind_is : (o : Option ℕ) → bad_kind o ≡ false → o ≡ unless 0 (code (kind_or_scan (unwrap_or o 0)))
kind_is None h = refl
kind_is (Some k) h =
    let p = or_parts (eqb k 0) (ltb 6 k) h in
    sym (ap (unless 0) (code_kind k (ltb-false 6 k p.1)) ∙ unless_some 0 k (eqb-false k 0 p.0))

pub kind_back : (k : Kind) → (bad_kind (unless 0 (code k)) ≡ false) × (kind_or_scan (unwrap_or (unless 0 (code k)) 0) ≡ k)
kind_back Scan = (refl, refl)
kind_back IndexScan = (refl, refl)
kind_back HashJoin = (refl, refl)
kind_back MergeJoin = (refl, refl)
kind_back NestedLoops = (refl, refl)
kind_back Filter = (refl, refl)
kind_back Sort = (refl, refl)

-- ---------- the tag

pub tag_is : (o : Option ℕ) → bad_tag o ≡ false → o ≡ unless 0 (unwrap_or o 0)
tag_is None h = refl
tag_is (Some t) h = sym (unless_some 0 t (eqb-false t 0 h))

pub tag_back : (t : ℕ) → (bad_tag (unless 0 t) ≡ false) × (unwrap_or (unless 0 t) 0 ≡ t)
tag_back zero = (refl, refl)
tag_back (suc n) =
    let ne : suc n ≡ 0 → ⊥ = λ e. omega arith in
    let e : unless 0 (suc n) ≡ Some (suc n) = unless_some 0 (suc n) ne in
    (ap bad_tag e ∙ ne_eqb (suc n) 0 ne, ap (λ o. unwrap_or o 0) e)

-- ---------- the children

pub children_are : (n : ℕ) (l r : Bool) → n ≤ 2 → bad_children n l r ≡ false → (l ≡ leb 1 n) × (r ≡ leb 2 n)
children_are zero l r w h = or_parts l r h
children_are (suc zero) l r w h = let p = or_parts (not l) r h in (not-false l p.0, p.1)
children_are (suc (suc zero)) l r w h = let p = or_parts (not l) (not r) h in (not-false l p.0, not-false r p.1)
children_are (suc (suc (suc n))) l r w h = absurd (omega arith)

pub children_back : (k : Kind) → bad_children (arity k) (leb 1 (arity k)) (leb 2 (arity k)) ≡ false
children_back Scan = refl
children_back IndexScan = refl
children_back HashJoin = refl
children_back MergeJoin = refl
children_back NestedLoops = refl
children_back Filter = refl
children_back Sort = refl

pub arity_small : (k : Kind) → arity k ≤ 2
arity_small Scan = lit≤ tt
arity_small IndexScan = lit≤ tt
arity_small HashJoin = lit≤ tt
arity_small MergeJoin = lit≤ tt
arity_small NestedLoops = lit≤ tt
arity_small Filter = lit≤ tt
arity_small Sort = lit≤ tt

pub child_is : (o : Option ℕ) (b : Bool) → is_some o ≡ b → o ≡ provided b (unwrap_or o 0)
child_is None b e = ap (λ t. provided t 0) e
child_is (Some c) b e = ap (λ t. provided t c) e

pub child_below : (g : ℕ) (o : Option ℕ) → bad_child g o ≡ false → is_some o ≡ true → unwrap_or o 0 < g
child_below g None h e = absurd (true≢false (sym e))
child_below g (Some c) h e = leb-false g c h

pub child_none : (o : Option ℕ) → is_some o ≡ false → unwrap_or o 0 ≡ 0
child_none None e = refl
child_none (Some c) e = absurd (true≢false e)

pub child_back : (g c : ℕ) (b : Bool) → (b ≡ true → c < g) → (b ≡ false → c ≡ 0) → (bad_child g (provided b c) ≡ false) × (unwrap_or (provided b c) 0 ≡ c)
child_back g c true h k = (lt-leb g c (h refl), refl)
child_back g c false h k = (refl, sym (k refl))

-- ---------- equal alternatives

code_same : (j k : Kind) → code j ≡ code k → j ≡ k
code_same j k e = sym (kind_code j) ∙ ap kind_or_scan e ∙ kind_code k

pub same_true : (a b : Alternative) → same a b ≡ true → a ≡ b
same_true a b h =
    let p = and_parts (eqb (code a.kind) (code b.kind)) _ h in
    let q = and_parts (eqb a.tag b.tag) _ p.1 in
    let r = and_parts (eqb a.left b.left) _ q.1 in
    let k = code_same a.kind b.kind (eqb-true (code a.kind) (code b.kind) p.0) in
    let t = eqb-true a.tag b.tag q.0 in
    let l = eqb-true a.left b.left r.0 in
    let m = eqb-true a.right b.right r.1 in
    λ i. record { kind = k i; tag = t i; left = l i; right = m i }

pub same_refl : (a : Alternative) → same a a ≡ true
same_refl a =
    and_from _ _ (eq-eqb (code a.kind) (code a.kind) refl) (and_from _ _ (eq-eqb a.tag a.tag refl) (and_from _ _ (eq-eqb a.left a.left refl) (eq-eqb a.right a.right refl)))

pub among_none : (xs : List Alternative) (a : Alternative) → among xs a ≡ false → AllByRecursion (λ x. x ≡ a → ⊥) xs
among_none [] a h = tt
among_none (x ∷ xs) a h =
    let p = or_parts (same x a) (among xs a) h in
    ((λ e. both_ways (same x a) p.0 (subst (λ y. same x y ≡ true) e (same_refl x))), among_none xs a p.1)

pub among_not : (xs : List Alternative) (a : Alternative) → AllByRecursion (λ x. x ≡ a → ⊥) xs → among xs a ≡ false
among_not [] a h = refl
among_not (x ∷ xs) a h =
    let P : Bool → Type 0 = λ t. same x a ≡ t → same x a ≡ false in
    let q : P (same x a) = elim (same x a) as P [ true ↦ (λ e. absurd (h.0 (same_true x a e))) | false ↦ (λ e. e) ] in
    or_from (same x a) (among xs a) (q refl) (among_not xs a h.1)
