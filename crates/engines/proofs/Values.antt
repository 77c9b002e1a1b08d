-- Working out the list of a plan pushes the plan's value onto any stack, or stops at its fault.
use Rattle.std.proofs.Common.{◌≡◌, ℕ, ◌+◌, ◌≤◌, ltb, List, [], ◌∷◌, ◌++◌, length, Some, None, Ok, Err, Option, Result, sym, refl, ap, ◌∙◌, ap₂, append_assoc, arith}
use Rattle.std.proofs.lemmas.List.{drop_at, length-append, take_at}
use Rattle.std.proofs.lemmas.Bool.{cond-false, le-ltb}
use Rattle.spaces.specs.declared.kind.Kind.{Kind}
use Rattle.spaces.specs.declared.kind.Kind.TheVariants.{Filter, HashJoin, IndexScan, MergeJoin, NestedLoops, Scan, Sort}
use Rattle.spaces.specs.declared.space.Alternative.{Alternative}
use Rattle.spaces.specs.Kinds.{arity}
use Rattle.spaces.specs.Spaces.{Meaning}
use Rattle.numbering.specs.declared.node.Node.{Node}
use Rattle.numbering.specs.Plans.{Tree, first, node, nodes, none, second}
use Rattle.engines.specs.Values.{after, at_top, both, over, pushed, results, Rule, topmost, value, value_of_list, Valued, worked}

-- how many results a plan for what is due has
abbrev due_results : Option ℕ → ℕ
due_results None = 0
due_results (Some g) = 1

-- an operator has as many children as goals are due
due_both : (k : Kind) (g h : ℕ) → due_results (first (arity k) g) + due_results (second (arity k) h) ≡ arity k
due_both Scan g h = refl
due_both IndexScan g h = refl
due_both HashJoin g h = refl
due_both MergeJoin g h = refl
due_both NestedLoops g h = refl
due_both Filter g h = refl
due_both Sort g h = refl

-- some results on top of a stack
abbrev laid : {V : Type 0} → Result (List V) ℕ → List V → Result (List V) ℕ
laid (Ok vs) stack = Ok (vs ++ stack)
laid (Err f) stack = Err f

laid_pushed : {V : Type 0} (r : Result V ℕ) (stack : List V) → laid (pushed r []) stack ≡ pushed r stack
laid_pushed (Ok v) stack = refl
laid_pushed (Err f) stack = refl

pub worked_append : {V : Type 0} (rule : Rule V) (xs ys : List Node) (r : Result (List V) ℕ) → worked rule (xs ++ ys) r ≡ worked rule xs (worked rule ys r)
worked_append rule [] ys r = refl
worked_append rule (x ∷ xs) ys r = ap (after rule x.alternative) (worked_append rule xs ys r)

pub stops : {V : Type 0} (rule : Rule V) (xs : List Node) (f : ℕ) → worked rule xs (Err f) ≡ Err f
stops rule [] f = refl
stops rule (x ∷ xs) f = ap (after rule x.alternative) (stops rule xs f)

-- r has n results, unless it is a fault
abbrev Sized : {V : Type 0} → Result (List V) ℕ → ℕ → Type 0
Sized {V} r n = (vs : List V) → r ≡ Ok vs → length vs ≡ n

one_sized : {V : Type 0} (r : Result V ℕ) → Sized (pushed r []) 1
one_sized (Ok v) vs e = let is : vs ≡ v ∷ [] = cc in ap length is
one_sized (Err f) vs e = let z : ◌≡◌ {A = ℕ} 0 1 = cc in absurd (omega arith)

both_sized : {V : Type 0} (x y : Result (List V) ℕ) (n k : ℕ) → Sized x n → Sized y k → Sized (both x y) (n + k)
both_sized x (Err f) n k p q vs e = let z : ◌≡◌ {A = ℕ} 0 1 = cc in absurd (omega arith)
both_sized (Err f) (Ok ys) n k p q vs e = let z : ◌≡◌ {A = ℕ} 0 1 = cc in absurd (omega arith)
both_sized (Ok xs) (Ok ys) n k p q vs e =
    let is : vs ≡ xs ++ ys = cc in
    ap length is ∙ length-append xs ys ∙ ap₂ (λ i j. i + j) (p xs refl) (q ys refl)

results_sized : {V : Type 0} {m : Meaning} {o : Option ℕ} (rule : Rule V) (t : Tree m o) → Sized (results rule t) (due_results o)
results_sized rule none vs e = let is : vs ≡ [] = cc in ap length is
results_sized rule (node i a h l r) vs e = one_sized (over rule a (both (results rule l) (results rule r))) vs e

-- a node over as many results as it has children
after_laid : {V : Type 0} (rule : Rule V) (a : Alternative) (r : Result (List V) ℕ) (stack : List V) → Sized r (arity a.kind) → after rule a (laid r stack) ≡ pushed (over rule a r) stack
after_laid rule a (Err f) stack n = refl
after_laid rule a (Ok vs) stack n =
    let k = arity a.kind in
    let fits : length vs ≡ arity a.kind = n vs refl in
    let many : arity a.kind ≤ length (vs ++ stack) = simp length-append (omega arith) in
    let sees : at_top rule a (vs ++ stack) ≡ rule a.kind a.tag vs =
    cond-false (ltb (length (vs ++ stack)) (arity a.kind)) _ _ (le-ltb (length (vs ++ stack)) (arity a.kind) many)
    ∙ ap (rule a.kind a.tag) (take_at vs stack (arity a.kind) fits) in
    ap₂ pushed sees (drop_at vs stack (arity a.kind) fits)

-- the right part's list, then the left part's
both_laid : {V : Type 0} (rule : Rule V) (ls : List Node) (x y : Result (List V) ℕ) (stack : List V) → ((s : List V) → worked rule ls (Ok s) ≡ laid x s)
    → worked rule ls (laid y stack) ≡ laid (both x y) stack
both_laid rule ls x (Err f) stack go = stops rule ls f
both_laid rule ls (Err f) (Ok ys) stack go = go (ys ++ stack)
both_laid rule ls (Ok xs) (Ok ys) stack go = go (ys ++ stack) ∙ ap Ok (sym (append_assoc xs ys stack))

-- over any stack, the list of a plan lays the plan's results on it
lays : {V : Type 0} {m : Meaning} {o : Option ℕ} (rule : Rule V) (t : Tree m o) (stack : List V) → worked rule (nodes t) (Ok stack) ≡ laid (results rule t) stack
lays rule none stack = refl
lays rule (node i a e l r) stack =
    let x = results rule l in
    let y = results rule r in
    let sized : Sized (both (results rule l) (results rule r)) (arity a.kind) =
    λ vs is. both_sized x y _ _ (results_sized rule l) (results_sized rule r) vs is ∙ due_both a.kind a.left a.right in
    ap (after rule a) (worked_append rule (nodes l) (nodes r) (Ok stack) ∙ ap (worked rule (nodes l)) (lays rule r stack) ∙ both_laid rule (nodes l) x y stack (lays rule l))
    ∙ after_laid rule a (both x y) stack sized
    ∙ sym (laid_pushed (over rule a (both x y)) stack)

pub topmost_pushed : {V : Type 0} (r : Result V ℕ) (stack : List V) → topmost (pushed r stack) ≡ r
topmost_pushed (Ok v) stack = refl
topmost_pushed (Err f) stack = refl

-- what the list of a plan comes to is the plan's value
pub list_value : {V : Type 0} {m : Meaning} {g : ℕ} (rule : Rule V) (t : Tree m (Some g)) → value_of_list rule (nodes t) ≡ value rule t
list_value rule (node i a e l r) =
    let v = over rule a (both (results rule l) (results rule r)) in
    ap topmost (lays rule (node i a e l r) [] ∙ laid_pushed v []) ∙ topmost_pushed v []

pub valued : {V : Type 0} (rule : Rule V) (list : List Node) (r : Result V ℕ) → r ≡ value_of_list rule list → Valued rule list r
valued rule list r is m g t e = is ∙ ap (value_of_list rule) (sym e) ∙ list_value rule t
