-- Reading the nodes of a text, one after the other.
use Rattle.std.proofs.Common.{◌≡◌, ℕ, zero, suc, ◌+◌, ◌-◌, ◌<◌, ◌≤◌, Bool, true, false, cond, eqb, List, [], ◌∷◌, ◌++◌, length, take, drop, Some, None, Option, sym, refl, ap, ◌∙◌, subst, ⊎_elim, append_assoc, append-nil, arith, length-append, length-drop, take-append-drop}
use Rattle.std.proofs.lemmas.List.{length-take-le, nil_from_length, take_all, take_at}
use Rattle.std.proofs.lemmas.Bool.{cases_lt}
use Rattle.std.specs.List.{slice_get, AllByRecursion}
use Rattle.std.specs.Char.{is_ascii_digit}
use Rattle.spaces.specs.Places.{none_some}
use Rattle.spaces.specs.declared.space.Alternative.{Alternative}
use Rattle.spaces.specs.Kinds.{arity}
use Rattle.spaces.specs.Spaces.{Lawful, Meaning}
use Rattle.numbering.specs.declared.node.Node.{Node}
use Rattle.numbering.specs.Plans.{Tree, first as first_due, left_due, node, nodes, none, right_due, second as second_due}
use Rattle.texts.specs.declared.error.TextError.{TextError}
use Rattle.texts.specs.declared.error.TextError.TheVariants.{BytesFollow, NoMark, NoMemory, NoNode}
use Rattle.texts.specs.Layout.{ahead, opening}
use Rattle.texts.specs.Listed.{headed, text, texts}
use Rattle.texts.specs.Parts.{LabelAt, Labelled, NoDigit, Stands, bare}
use Rattle.texts.specs.Passing.{Missed, NotPassed, Passed, due_then, from_top, goes_on, has_comma, passed}
use Rattle.texts.specs.Reads.{MarkDue, NodesRead, NotRead, stripped}
use Rattle.texts.specs.Texts.{label, tree_text}
use Rattle.texts.proofs.Forests.{ahead_start}
use Rattle.texts.proofs.Labels.{after_part, one_label}
use Rattle.texts.proofs.Links.{sound_at}
use Rattle.texts.proofs.Passes.{ahead_headed, cancel, missed, stopped}
use Rattle.texts.proofs.Runs.{clash}
use Rattle.texts.proofs.TreeTexts.{piece, put_one}
use Rattle.texts.proofs.Turns.{arity_most}

-- ---- the plans that are ahead

module _ (m : Meaning) where
  pub record Plan : Type 0 where
    pub top : ℕ
    pub tree : Tree m (Some top)

  abbrev push : {o : Option ℕ} → Tree m o → List Plan → List Plan
  push none ps = ps
  push (node {g} i a e l r) ps = record { top = g; tree = node {g = g} i a e l r } ∷ ps

  abbrev plan_texts : List Plan → List (List ℕ)
  plan_texts [] = []
  plan_texts (p ∷ ps) = tree_text p.tree ∷ plan_texts ps

  abbrev plan_nodes : List Plan → List Node
  plan_nodes [] = []
  plan_nodes (p ∷ ps) = nodes p.tree ++ plan_nodes ps

  abbrev places : Option ℕ → ℕ
  places None = 0
  places (Some g) = 1

  push_texts : {o : Option ℕ} (t : Tree m o) (ps : List Plan) → plan_texts (push t ps) ≡ piece o (tree_text t) (plan_texts ps)
  push_texts none ps = refl
  push_texts (node i a e l r) ps = refl

  push_nodes : {o : Option ℕ} (t : Tree m o) (ps : List Plan) → plan_nodes (push t ps) ≡ nodes t ++ plan_nodes ps
  push_nodes none ps = refl
  push_nodes (node i a e l r) ps = refl

  push_count : {o : Option ℕ} (t : Tree m o) (ps : List Plan) → length (push t ps) ≡ places o + length ps
  push_count none ps = omega arith
  push_count (node i a e l r) ps = omega arith

  abbrev commas : List ℕ → ℕ
  commas [] = 0
  commas (c ∷ s) = cond (eqb c 44) 1 0 + commas s

  -- what is ahead at the index i, where the plan t is read, the marks s are due and list has been read
  pub record Ahead {g : ℕ} (t : Tree m (Some g)) (bytes : List ℕ) (i : ℕ) (s : List ℕ) (due : Bool) (list : List Node) : Type 0 where
    pub plans : List Plan
    pub is : drop i bytes ≡ ahead s (plan_texts plans)
    pub whole : list ++ stripped (plan_nodes plans) ≡ stripped (nodes t)
    pub many : due ≡ true → length plans ≡ commas s + 1
    pub none_left : due ≡ false → length plans ≡ 0
    pub marks : AllByRecursion (λ c. is_ascii_digit c ≡ false) s

  -- the first plan ahead, taken apart: its top node, and the plans ahead then
  pub record Next (s : List ℕ) (ps : List Plan) : Type 0 where
    pub goal : ℕ
    pub chosen : Alternative
    pub later : List Plan
    pub tag_fits : chosen.tag < 65536
    pub goal_fits : goal < 65536
    pub is : ahead s (plan_texts ps) ≡ label (bare chosen.kind chosen.tag goal) ++ (passed (arity chosen.kind) s ++ ahead (due_then (arity chosen.kind) s) (plan_texts later))
    pub whole : stripped (plan_nodes ps) ≡ bare chosen.kind chosen.tag goal ∷ stripped (plan_nodes later)
    pub count : suc (length later) ≡ places (left_due chosen) + places (right_due chosen) + length ps

  module _ (law : Lawful m) where
    goal_small : (g i : ℕ) (a : Alternative) → slice_get (m.lists g) i ≡ Some a → g < 65536
    goal_small g i a e =
        ⊎_elim (λ (h : g < m.goals). omega (arith, law.few)) (λ (h : m.goals ≤ g). none_some (sym (ap (λ xs. slice_get xs i) (law.outside g h)) ∙ e)) (cases_lt g m.goals)

    next_plan : (s : List ℕ) {g : ℕ} (t : Tree m (Some g)) (ps : List Plan) → Next s (record { top = g; tree = t } ∷ ps)
    next_plan s (node {g} j a e l r) ps =
        let k : ℕ = arity a.kind in
        let lab : List ℕ = label (bare a.kind a.tag g) in
        let later : List Plan = push l (push r ps) in
        let ts : plan_texts later ≡ piece (left_due a) (tree_text l) (piece (right_due a) (tree_text r) (plan_texts ps)) =
        push_texts l (push r ps) ∙ ap (piece (left_due a) (tree_text l)) (push_texts r ps) in
        let ns : plan_nodes later ≡ (nodes l ++ nodes r) ++ plan_nodes ps =
        push_nodes l (push r ps) ∙ ap (λ x. nodes l ++ x) (push_nodes r ps) ∙ sym (append_assoc (nodes l) (nodes r) (plan_nodes ps)) in
        record {
          goal = g;
          chosen = a;
          later = later;
          tag_fits = (sound_at m law g j a e).tag_fits;
          goal_fits = goal_small g j a e;
          is = ap (ahead s) (sym (ap (headed k lab) ts ∙ put_one k a.left a.right lab (tree_text l) (tree_text r) (plan_texts ps))) ∙ ahead_headed k lab s (plan_texts later);
          whole = ap (λ x. bare a.kind a.tag g ∷ stripped x) (sym ns);
          count = omega (arith, push_count l (push r ps), push_count r ps);
        }

    next : (s : List ℕ) (ps : List Plan) → 1 ≤ length ps → Next s ps
    next s [] h = absurd (omega arith)
    next s (p ∷ ps) h = next_plan s p.tree ps

  -- no digit follows a node's own part
  plain : (k : ℕ) (s : List ℕ) (ts : List (List ℕ)) → AllByRecursion (λ c. is_ascii_digit c ≡ false) s → (k ≡ 0 → length ts ≡ commas s) → NoDigit (passed k s ++ ahead (due_then k s) ts)
  plain zero [] [] marks few = tt
  plain zero [] (t ∷ ts) marks few = absurd (omega (arith, few refl))
  plain zero (c ∷ s) ts marks few = marks.0
  plain (suc k) s ts marks few = refl

  length_texts : (ps : List Plan) → length (plan_texts ps) ≡ length ps
  length_texts [] = refl
  length_texts (p ∷ ps) = ap suc (length_texts ps)

  -- how many goals a node of k children has due
  due_places : (k l r : ℕ) → k ≤ 2 → places (first_due k l) + places (second_due k r) ≡ k
  due_places zero l r h = refl
  due_places (suc zero) l r h = refl
  due_places (suc (suc zero)) l r h = refl
  due_places (suc (suc (suc k))) l r h = absurd (omega arith)

  -- the marks due after a node, and the plans that they want
  then_many : (k n : ℕ) (s : List ℕ) → k ≤ 2 → n ≡ k + commas s → goes_on k s ≡ true → n ≡ commas (due_then k s) + 1
  then_many zero n s h e on = omega (arith, comma_many s on)
    where
      comma_many : (s : List ℕ) → has_comma s ≡ true → commas s ≡ commas (opening s) + 1
      comma_many [] f = let z : ◌≡◌ {A = ℕ} 0 1 = ap (λ b. cond b 1 0) f in absurd (omega arith)
      comma_many (c ∷ s) f = pick (eqb c 44) s f (comma_many s)
        where
          pick : (b : Bool) (s : List ℕ) → cond b true (has_comma s) ≡ true → (has_comma s ≡ true → commas s ≡ commas (opening s) + 1) → cond b 1 0 + commas s ≡ commas (cond b s (opening s)) + 1
          pick true s f more = omega arith
          pick false s f more = omega (arith, more f)
  then_many (suc zero) n s h e on = omega arith
  then_many (suc (suc zero)) n s h e on = omega arith
  then_many (suc (suc (suc k))) n s h e on = absurd (omega arith)

  then_none : (k n : ℕ) (s : List ℕ) → n ≡ k + commas s → goes_on k s ≡ false → n ≡ 0
  then_none zero n s e off = omega (arith, no_commas s off)
    where
      no_commas : (s : List ℕ) → has_comma s ≡ false → commas s ≡ 0
      no_commas [] f = refl
      no_commas (c ∷ s) f = pick (eqb c 44) s f (no_commas s)
        where
          pick : (b : Bool) (s : List ℕ) → cond b true (has_comma s) ≡ false → (has_comma s ≡ false → commas s ≡ 0) → cond b 1 0 + commas s ≡ 0
          pick true s f more = let z : ◌≡◌ {A = ℕ} 1 0 = ap (λ b. cond b 1 0) f in absurd (omega arith)
          pick false s f more = omega (arith, more f)
  then_none (suc k) n s e off = let z : ◌≡◌ {A = ℕ} 1 0 = ap (λ b. cond b 1 0) off in absurd (omega arith)

  then_marks : (k : ℕ) (s : List ℕ) → AllByRecursion (λ c. is_ascii_digit c ≡ false) s → AllByRecursion (λ c. is_ascii_digit c ≡ false) (due_then k s)
  then_marks zero s marks = go s marks
    where
      go : (s : List ℕ) → AllByRecursion (λ c. is_ascii_digit c ≡ false) s → AllByRecursion (λ c. is_ascii_digit c ≡ false) (opening s)
      go [] marks = tt
      go (c ∷ s) marks = pick (eqb c 44) s marks.1 (go s marks.1)
        where
          pick : (b : Bool) (s : List ℕ) → AllByRecursion (λ c. is_ascii_digit c ≡ false) s → AllByRecursion (λ c. is_ascii_digit c ≡ false) (opening s) → AllByRecursion (λ c. is_ascii_digit c ≡ false) (cond b s (opening s))
          pick true s marks more = marks
          pick false s marks more = more
  then_marks (suc zero) s marks = (refl, marks)
  then_marks (suc (suc k)) s marks = (refl, (refl, marks))

-- the bytes before two indices, and what stands between them
take_part : (bytes : List ℕ) (i e : ℕ) (xs : List ℕ) → i ≤ length bytes → e ≤ length bytes → drop i bytes ≡ xs ++ drop e bytes → take e bytes ≡ take i bytes ++ xs
take_part bytes i e xs h k is =
    let whole : bytes ≡ (take i bytes ++ xs) ++ drop e bytes =
    sym (take-append-drop i bytes) ∙ ap (λ y. take i bytes ++ y) is ∙ sym (append_assoc (take i bytes) xs (drop e bytes)) in
    let long : length (take i bytes ++ xs) ≡ e =
    omega (arith, length-append (take i bytes) xs, length-take-le i bytes h, ap length is, length-append xs (drop e bytes), length-drop i bytes, length-drop e bytes) in
    ap (take e) whole ∙ take_at (take i bytes ++ xs) (drop e bytes) e long

-- ---- the loop: list has been read up to the index i, where the marks s are due, and whether a node is due

pub record Reading (bytes : List ℕ) (i : ℕ) (s : List ℕ) (due : Bool) (list : List Node) : Type 0 where
  pub to : i ≤ length bytes
  pub begins : (ns : List Node) → text (list ++ ns) ≡ take i bytes ++ ahead s (texts ns)
  pub closed : due ≡ false → s ≡ []
  pub plan : (m : Meaning) → Lawful m → (g : ℕ) (t : Tree m (Some g)) → tree_text t ≡ bytes → Ahead m t bytes i s due list

pub reading_start : (bytes : List ℕ) → Reading bytes 0 [] true []
reading_start bytes =
    record {
      to = omega arith;
      begins = λ ns. sym (ahead_start ns);
      closed = λ f. clash true refl f;
      plan = λ m law g t e. record {
        plans = record { top = g; tree = t } ∷ [];
        is = sym e ∙ sym (append-nil (tree_text t));
        whole = ap stripped (append-nil (nodes t));
        many = λ f. refl;
        none_left = λ f. clash true refl f;
        marks = tt;
      };
    }

pub reading_new : (bytes v : List ℕ) (list : List Node) → v ≡ [] → list ≡ [] → Reading bytes 0 (from_top v) true list
reading_new bytes v list e f =
    subst (λ s. Reading bytes 0 s true list) (sym (ap from_top e)) (subst (Reading bytes 0 [] true) (sym f) (reading_start bytes))

-- a node and its marks are not empty
pub shorter : (bytes : List ℕ) (i e r k : ℕ) (s u : List ℕ) (b : Bool) (n : Node) → Labelled bytes i n e → Passed k s u bytes e r b → length bytes - r < length bytes - i
shorter bytes i e r k s u b n l p =
    let some : 1 ≤ length (label n) = omega arith in
    omega (
      arith,
      ap length l.stands.is,
      length-append (label n) (drop e bytes),
      ap length p.is,
      length-append (passed k s) (drop r bytes),
      length-drop i bytes,
      length-drop e bytes,
      length-drop r bytes,
    )

module _ (bytes : List ℕ) (i : ℕ) (s : List ℕ) (list : List Node) (before : Reading bytes i s true list) where
  -- the own part of the first node ahead stands at i
  record Found (m : Meaning) {g : ℕ} (t : Tree m (Some g)) : Type 0 where
    now : Ahead m t bytes i s true list
    nx : Next m s now.plans
    here : Stands (label (bare nx.chosen.kind nx.chosen.tag nx.goal)) bytes i (i + length (label (bare nx.chosen.kind nx.chosen.tag nx.goal)))
    tail : drop (i + length (label (bare nx.chosen.kind nx.chosen.tag nx.goal))) bytes
        ≡ passed (arity nx.chosen.kind) s ++ ahead (due_then (arity nx.chosen.kind) s) (plan_texts m nx.later)
    count : length nx.later ≡ arity nx.chosen.kind + commas m s

  found : (m : Meaning) → Lawful m → (g : ℕ) (t : Tree m (Some g)) → tree_text t ≡ bytes → Found m t
  found m law g t e =
      let a = before.plan m law g t e in
      let n = next m law s a.plans (omega (arith, a.many refl)) in
      let k : ℕ = arity n.chosen.kind in
      let lab : List ℕ = label (bare n.chosen.kind n.chosen.tag n.goal) in
      let past : List ℕ = passed k s ++ ahead (due_then k s) (plan_texts m n.later) in
      let all : drop i bytes ≡ lab ++ past = a.is ∙ n.is in
      let tail : drop (i + length lab) bytes ≡ past = after_part bytes i lab past all in
      let many : length n.later ≡ k + commas m s =
      omega (arith, n.count, a.many refl, due_places m k n.chosen.left n.chosen.right (arity_most n.chosen.kind)) in
      record {
        now = a;
        nx = n;
        here = record {
          to = omega (arith, ap length all, length-append lab past, length-drop i bytes, before.to);
          is = all ∙ ap (λ x. lab ++ x) (sym tail);
          ends = subst NoDigit (sym tail) (plain m k s (plan_texts m n.later) a.marks (λ z. omega (arith, length_texts m n.later, many, z)));
        };
        tail = tail;
        count = many;
      }

  pub no_node : LabelAt bytes i None → NotRead bytes (NoNode i)
  no_node missing =
      record {
        breaks = record { list = list; marks = s; begins = before.begins; missing = missing };
        plan = λ m law g t e.
            let f = found m law g t e in
            absurd (missing f.nx.chosen.kind f.nx.chosen.tag f.nx.goal _ f.nx.tag_fits f.nx.goal_fits f.here);
      }

  module _ (n : Node) (e : ℕ) (l : Labelled bytes i n e) where
    -- the node that was read is the first node ahead
    record Same (m : Meaning) {g : ℕ} (t : Tree m (Some g)) : Type 0 where
      now : Ahead m t bytes i s true list
      later : List (Plan m)
      tail : drop e bytes ≡ passed (arity n.alternative.kind) s ++ ahead (due_then (arity n.alternative.kind) s) (plan_texts m later)
      whole : stripped (plan_nodes m now.plans) ≡ n ∷ stripped (plan_nodes m later)
      count : length later ≡ arity n.alternative.kind + commas m s

    same : (m : Meaning) → Lawful m → (g : ℕ) (t : Tree m (Some g)) → tree_text t ≡ bytes → Same m t
    same m law g t eq =
        let f = found m law g t eq in
        let x = f.nx in
        let both = one_label bytes i n.alternative.kind x.chosen.kind n.alternative.tag n.goal e x.chosen.tag x.goal _
        l.tag l.goal x.tag_fits x.goal_fits l.stands f.here in
        let k : arity x.chosen.kind ≡ arity n.alternative.kind = sym (ap (λ (y : Node). arity y.alternative.kind) both.0) in
        record {
          now = f.now;
          later = x.later;
          tail = ap (λ j. drop j bytes) both.1 ∙ f.tail ∙ ap (λ j. passed j s ++ ahead (due_then j s) (plan_texts m x.later)) k;
          whole = x.whole ∙ ap (λ y. y ∷ stripped (plan_nodes m x.later)) (sym (l.plain ∙ both.0));
          count = f.count ∙ ap (λ j. j + commas m s) k;
        }

    -- the text of a list that goes on with this node
    goes : (ns : List Node) → text ((list ++ (n ∷ [])) ++ ns) ≡ take e bytes ++ (passed (arity n.alternative.kind) s ++ ahead (due_then (arity n.alternative.kind) s) (texts ns))
    goes ns =
        let k : ℕ = arity n.alternative.kind in
        let past : List ℕ = passed k s ++ ahead (due_then k s) (texts ns) in
        ap text (append_assoc list (n ∷ []) ns)
        ∙ before.begins (n ∷ ns)
        ∙ ap (λ x. take i bytes ++ x) (ahead_headed k (label n) s (texts ns))
        ∙ sym (append_assoc (take i bytes) (label n) past)
        ∙ ap (λ x. x ++ past) (sym (take_part bytes i e (label n) before.to l.stands.to l.stands.is))

    mark_due : (p : ℕ) → Missed (arity n.alternative.kind) s bytes e p → MarkDue bytes p
    mark_due p miss =
        let k : ℕ = arity n.alternative.kind in
        record {
          list = list ++ (n ∷ []);
          mark = miss.mark;
          left = λ ns. miss.rest ++ ahead (due_then k s) (texts ns);
          begins = λ ns.
              let on : List ℕ = ahead (due_then k s) (texts ns) in
              goes ns
              ∙ ap (λ x. take e bytes ++ (x ++ on)) miss.all
              ∙ ap (λ x. take e bytes ++ x) (append_assoc miss.gone (miss.mark ∷ miss.rest) on)
              ∙ sym (append_assoc (take e bytes) miss.gone (miss.mark ∷ (miss.rest ++ on)))
              ∙ ap (λ x. x ++ (miss.mark ∷ (miss.rest ++ on))) (sym (take_part bytes e p miss.gone l.stands.to miss.to miss.is));
          other = miss.other;
        }

    pub no_marks : (err : TextError) → NotPassed (arity n.alternative.kind) s bytes e err → NotRead bytes err
    no_marks (NoNode p) miss = absurd miss
    no_marks (NoMark p) miss =
        record {
          breaks = mark_due p miss;
          plan = λ m law g t eq. let f = same m law g t eq in absurd (missed (arity n.alternative.kind) s bytes e p miss _ f.tail);
        }
    no_marks (BytesFollow p) miss = absurd miss
    no_marks NoMemory miss = record { breaks = tt; plan = λ m law g t eq. refl }

    pub reading_more : (r : ℕ) (u : List ℕ) (due : Bool) → Passed (arity n.alternative.kind) s u bytes e r due → Reading bytes r u due (list ++ (n ∷ []))
    reading_more r u due p =
        let k : ℕ = arity n.alternative.kind in
        record {
          to = p.to;
          begins = λ ns.
              let on : List ℕ = ahead (due_then k s) (texts ns) in
              goes ns
              ∙ sym (append_assoc (take e bytes) (passed k s) on)
              ∙ ap (λ x. x ++ on) (sym (take_part bytes e r (passed k s) l.stands.to p.to p.is))
              ∙ ap (λ z. take r bytes ++ ahead z (texts ns)) (sym p.due);
          closed = λ f. p.due ∙ stopped k s (sym p.more ∙ f);
          plan = λ m law g t eq.
              let f = same m law g t eq in
              record {
                plans = f.later;
                is = cancel (passed k s) (drop r bytes) (ahead (due_then k s) (plan_texts m f.later)) (sym p.is ∙ f.tail) ∙ ap (λ z. ahead z (plan_texts m f.later)) (sym p.due);
                whole = append_assoc list (n ∷ []) (stripped (plan_nodes m f.later)) ∙ ap (λ x. list ++ x) (sym f.whole) ∙ f.now.whole;
                many = λ o. then_many m k (length f.later) s (arity_most n.alternative.kind) f.count (sym p.more ∙ o) ∙ ap (λ z. commas m z + 1) (sym p.due);
                none_left = λ o. then_none m k (length f.later) s f.count (sym p.more ∙ o);
                marks = subst (AllByRecursion (λ c. is_ascii_digit c ≡ false)) (sym p.due) (then_marks m k s f.now.marks);
              };
        }

module _ (bytes : List ℕ) (i : ℕ) (s : List ℕ) (list : List Node) (before : Reading bytes i s false list) where
  all_read : (m : Meaning) (g : ℕ) (t : Tree m (Some g)) (a : Ahead m t bytes i s false list) → (drop i bytes ≡ []) × (list ≡ stripped (nodes t))
  all_read m g t a =
      let none : a.plans ≡ [] = nil_from_length a.plans (a.none_left refl) in (
        a.is ∙ ap (λ ps. ahead s (plan_texts m ps)) none ∙ ap (λ z. ahead z []) (before.closed refl),
        sym (append-nil list) ∙ ap (λ ps. list ++ stripped (plan_nodes m ps)) (sym none) ∙ a.whole,
      )

  read_so_far : text list ≡ take i bytes
  read_so_far =
      ap text (sym (append-nil list)) ∙ before.begins [] ∙ ap (λ z. take i bytes ++ ahead z []) (before.closed refl) ∙ append-nil (take i bytes)

  pub bytes_follow : i < length bytes → NotRead bytes (BytesFollow i)
  bytes_follow h =
      record {
        breaks = record { list = list; whole = read_so_far; more = h };
        plan = λ m law g t e.
            let a = all_read m g t (before.plan m law g t e) in
            absurd (omega (arith, ap length a.0, length-drop i bytes));
      }

  pub reading_end : length bytes ≤ i → NodesRead bytes list
  reading_end h =
      record {
        same = read_so_far ∙ take_all i bytes h;
        plan = λ m law g t e. (all_read m g t (before.plan m law g t e)).1;
      }

-- one turn of the loop: a node is read, and then its marks, from texts that are the same
module _ (bytes at_node at_marks : List ℕ) (i e : ℕ) (s : List ℕ) (list : List Node) (before : Reading bytes i s true list) (n : Node) (k : ℕ) (found : Labelled at_node i n e)
    (same : at_node ≡ bytes) (still : at_marks ≡ at_node) (has : k ≡ arity n.alternative.kind) where
  label_read : Labelled bytes i n e
  label_read = subst (λ x. Labelled x i n e) same found

  marks_read : (p : ℕ) (u : List ℕ) (due : Bool) → Passed k s u at_marks e p due → Passed (arity n.alternative.kind) s u bytes e p due
  marks_read p u due h = subst (λ j. Passed j s u bytes e p due) has (subst (λ x. Passed k s u x e p due) (still ∙ same) h)

  pub turn_missed : (err : TextError) → NotPassed k s at_marks e err → NotRead bytes err
  turn_missed err h =
      no_marks bytes i s list before n e label_read err (subst (λ j. NotPassed j s bytes e err) has (subst (λ x. NotPassed k s x e err) (still ∙ same) h))

  pub turn_shorter : (p : ℕ) (u : List ℕ) (due : Bool) → Passed k s u at_marks e p due → length bytes - p < length bytes - i
  turn_shorter p u due h = shorter bytes i e p (arity n.alternative.kind) s u due n label_read (marks_read p u due h)

  pub turn_read : (p : ℕ) (u : List ℕ) (due : Bool) (now : List Node) → Passed k s u at_marks e p due → now ≡ list ++ (n ∷ []) → Reading bytes p u due now
  turn_read p u due now h pushed = subst (Reading bytes p u due) (sym pushed) (reading_more bytes i s list before n e label_read p u due (marks_read p u due h))
