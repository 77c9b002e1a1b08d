-- The goals of children are those of their own nodes.
use Rattle.std.proofs.Common.{◌≡◌, ℕ, zero, suc, ◌+◌, ◌≤◌, Bool, eqb, leb, List, [], ◌∷◌, ◌++◌, length, get_or, take, drop, set, Some, None, Option, sym, refl, ap, ◌∙◌, append_assoc, append-nil, arith}
use Rattle.std.proofs.lemmas.List.{drop_all, drop_more, get_or_at, length-take-le, set_at, take_all, take_more}
use Rattle.std.specs.List.{slice_get}
use Rattle.spaces.specs.Places.{all_nth}
use Rattle.spaces.specs.declared.space.Alternative.{Alternative}
use Rattle.spaces.specs.Kinds.{arity}
use Rattle.spaces.specs.Spaces.{Lawful, Meaning, Sound}
use Rattle.numbering.specs.declared.node.Node.{Node}
use Rattle.numbering.specs.Plans.{Tree, first as first_due, left_due, node, nodes, none, right_due, second as second_due}
use Rattle.texts.specs.Listed.{flat, headed, text, texts}
use Rattle.texts.specs.Links.{child, has_left, has_right, linked, others, roots, with_children}
use Rattle.texts.specs.Parts.{bare}
use Rattle.texts.specs.Passing.{from_top}
use Rattle.texts.specs.Reads.{NodesRead, ReadAs, stripped}
use Rattle.texts.specs.Texts.{label}
use Rattle.texts.proofs.Passes.{top_push}
use Rattle.texts.proofs.Turns.{arity_most, blank}

-- the goal of what is due, before others
abbrev placed : Option ℕ → List ℕ → List ℕ
placed None gs = gs
placed (Some g) gs = g ∷ gs

record Kids (k l r : ℕ) (gs us : List ℕ) : Type 0 where
  left : child (leb 1 k) us ≡ l
  right : child (eqb k 2) (others (leb 1 k) us) ≡ r
  after : others (eqb k 2) (others (leb 1 k) us) ≡ gs

kids : (k l r : ℕ) (gs : List ℕ) → k ≤ 2 → (k ≡ 0 → l ≡ 0) → (k ≤ 1 → r ≡ 0) → Kids k l r gs (placed (first_due k l) (placed (second_due k r) gs))
kids zero l r gs h a b = record { left = sym (a refl); right = sym (b (omega arith)); after = refl }
kids (suc zero) l r gs h a b = record { left = refl; right = sym (b (omega arith)); after = refl }
kids (suc (suc zero)) l r gs h a b = record { left = refl; right = refl; after = refl }
kids (suc (suc (suc k))) l r gs h a b = absurd (omega arith)

pub stripped_append : (xs ys : List Node) → stripped (xs ++ ys) ≡ stripped xs ++ stripped ys
stripped_append [] ys = refl
stripped_append (x ∷ xs) ys = ap (λ zs. bare x.alternative.kind x.alternative.tag x.goal ∷ zs) (stripped_append xs ys)

module _ (m : Meaning) (law : Lawful m) where
  pub sound_at : (g i : ℕ) (a : Alternative) → slice_get (m.lists g) i ≡ Some a → Sound g a
  sound_at g i a e = all_nth (Sound g) (m.lists g) i a (law.sound g) e

  split : (l r ns : List Node) → stripped (l ++ r) ++ ns ≡ stripped l ++ (stripped r ++ ns)
  split l r ns = ap (λ x. x ++ ns) (stripped_append l r) ∙ append_assoc (stripped l) (stripped r) ns

  roots_tree : {o : Option ℕ} (t : Tree m o) (ns : List Node) → roots (stripped (nodes t) ++ ns) ≡ placed o (roots ns)
  roots_tree none ns = refl
  roots_tree (node {g} i a e l r) ns =
      let k : ℕ = arity a.kind in
      let ok = sound_at g i a e in
      let below : roots (stripped (nodes l ++ nodes r) ++ ns) ≡ placed (left_due a) (placed (right_due a) (roots ns)) =
      ap roots (split (nodes l) (nodes r) ns) ∙ roots_tree l (stripped (nodes r) ++ ns) ∙ ap (placed (left_due a)) (roots_tree r ns) in
      ap (λ gs. g ∷ others (eqb k 2) (others (leb 1 k) gs)) below
      ∙ ap (λ gs. g ∷ gs) (kids k a.left a.right (roots ns) (arity_most a.kind) ok.left_unused ok.right_unused).after

  linked_tree : {o : Option ℕ} (t : Tree m o) (ns : List Node) → linked (stripped (nodes t) ++ ns) ≡ nodes t ++ linked ns
  linked_tree none ns = refl
  linked_tree (node {g} i a e l r) ns =
      let k : ℕ = arity a.kind in
      let ok = sound_at g i a e in
      let us : List ℕ = placed (left_due a) (placed (right_due a) (roots ns)) in
      let deep : roots (stripped (nodes l ++ nodes r) ++ ns) ≡ us =
      ap roots (split (nodes l) (nodes r) ns) ∙ roots_tree l (stripped (nodes r) ++ ns) ∙ ap (placed (left_due a)) (roots_tree r ns) in
      let found = kids k a.left a.right (roots ns) (arity_most a.kind) ok.left_unused ok.right_unused in
      let top : with_children (bare a.kind a.tag g) (roots (stripped (nodes l ++ nodes r) ++ ns)) ≡ record { goal = g; alternative = a } =
      ap (with_children (bare a.kind a.tag g)) deep
      ∙ (λ j. record { goal = g; alternative = record { kind = a.kind; tag = a.tag; left = found.left j; right = found.right j } }) in
      let rest : linked (stripped (nodes l ++ nodes r) ++ ns) ≡ (nodes l ++ nodes r) ++ linked ns =
      ap linked (split (nodes l) (nodes r) ns) ∙ linked_tree l (stripped (nodes r) ++ ns) ∙ ap (λ x. nodes l ++ x) (linked_tree r ns)
      ∙ sym (append_assoc (nodes l) (nodes r) (linked ns)) in
      ap (λ x. x ∷ linked (stripped (nodes l ++ nodes r) ++ ns)) top ∙ ap (λ x. record { goal = g; alternative = a } ∷ x) rest

  pub linked_plan : {o : Option ℕ} (t : Tree m o) → linked (stripped (nodes t)) ≡ nodes t
  linked_plan t = ap linked (sym (append-nil (stripped (nodes t)))) ∙ linked_tree t [] ∙ append-nil (nodes t)

-- ---- the loop, from the last node to the first

pub link_start : (ns : List Node) (v : List ℕ) → v ≡ [] → (from_top v ≡ roots (drop (length ns) ns)) × (ns ≡ take (length ns) ns ++ linked (drop (length ns) ns))
link_start ns v e =
    let none : drop (length ns) ns ≡ [] = drop_all (length ns) ns (omega arith) in (
      ap from_top e ∙ sym (ap roots none),
      sym (ap (λ x. take (length ns) ns ++ linked x) none ∙ append-nil (take (length ns) ns) ∙ take_all (length ns) ns (omega arith)),
    )

module _ (ns now : List Node) (i j : ℕ) (x : Node) (from : i ≡ j + 1) (within : i ≤ length ns) (here : x ≡ get_or now j blank) (before : now ≡ take i ns ++ linked (drop i ns)) where
  abbrev y : Node
  y = get_or ns j blank

  first : drop j ns ≡ y ∷ drop i ns
  first = drop_more ns j blank (omega arith) ∙ ap (λ k. y ∷ drop k ns) (sym from)

  front : now ≡ take j ns ++ (y ∷ linked (drop i ns))
  front =
      before ∙ ap (λ z. z ++ linked (drop i ns)) (ap (λ k. take k ns) from ∙ take_more ns j blank (omega arith))
      ∙ append_assoc (take j ns) (y ∷ []) (linked (drop i ns))

  long : length (take j ns) ≡ j
  long = length-take-le j ns (omega arith)

  same : x ≡ y
  same = here ∙ ap (λ z. get_or z j blank) front ∙ get_or_at (take j ns) y (linked (drop i ns)) blank j long

  pub link_more : (gs us vs ws : List ℕ) (a b : Bool) (l r : ℕ) (v : Node) → from_top gs ≡ roots (drop i ns) → a ≡ has_left x → b ≡ has_right x →
      l ≡ child a (from_top gs) → from_top us ≡ others a (from_top gs) → r ≡ child b (from_top us) → from_top vs ≡ others b (from_top us) → ws ≡ vs ++ (x.goal ∷ []) →
      v ≡ record { goal = x.goal; alternative = record { kind = x.alternative.kind; tag = x.alternative.tag; left = l; right = r } } →
      (from_top ws ≡ roots (drop j ns)) × (set now j v ≡ take j ns ++ linked (drop j ns))
  link_more gs us vs ws a b l r v eg ea eb el eu er ev ew is =
      let G : List ℕ = roots (drop i ns) in
      let left : l ≡ child (has_left x) G = el ∙ ap (λ k. child k (from_top gs)) ea ∙ ap (child (has_left x)) eg in
      let then : from_top us ≡ others (has_left x) G = eu ∙ ap (λ k. others k (from_top gs)) ea ∙ ap (others (has_left x)) eg in
      let right : r ≡ child (has_right x) (others (has_left x) G) = er ∙ ap (λ k. child k (from_top us)) eb ∙ ap (child (has_right x)) then in
      let last : from_top vs ≡ others (has_right x) (others (has_left x) G) = ev ∙ ap (λ k. others k (from_top us)) eb ∙ ap (others (has_right x)) then in
      let whole : v ≡ with_children x G =
      is ∙ (λ k. record { goal = x.goal; alternative = record { kind = x.alternative.kind; tag = x.alternative.tag; left = left k; right = right k } }) in (
        ap from_top ew ∙ top_push vs x.goal ∙ ap (λ z. x.goal ∷ z) last ∙ ap (λ z. roots (z ∷ drop i ns)) same ∙ sym (ap roots first),
        ap (λ z. set z j v) front ∙ set_at (take j ns) y (linked (drop i ns)) v j long
            ∙ ap (λ z. take j ns ++ (z ∷ linked (drop i ns))) (whole ∙ ap (λ z. with_children z G) same) ∙ sym (ap (λ z. take j ns ++ linked z) first),
      )

-- a text does not say the goals of children
texts_linked : (ns : List Node) → texts (linked ns) ≡ texts ns
texts_linked [] = refl
texts_linked (n ∷ ns) = ap (headed (arity n.alternative.kind) (label n)) (texts_linked ns)

pub text_linked : (ns : List Node) → text (linked ns) ≡ text ns
unfolding text
text_linked ns = ap flat (texts_linked ns)

-- the goals are given once and for all
roots_linked : (ns : List Node) → roots (linked ns) ≡ roots ns
roots_linked [] = refl
roots_linked (n ∷ ns) = ap (λ gs. n.goal ∷ others (has_right n) (others (has_left n) gs)) (roots_linked ns)

linked_twice : (ns : List Node) → linked (linked ns) ≡ linked ns
linked_twice [] = refl
linked_twice (n ∷ ns) = ap (λ gs. with_children n gs ∷ linked (linked ns)) (roots_linked ns) ∙ ap (λ xs. with_children n (roots ns) ∷ xs) (linked_twice ns)

-- ---- what is read, once the goals of the children stand

pub linked_read : (bytes : List ℕ) (list now : List Node) → NodesRead bytes list → now ≡ linked list → ReadAs bytes now
linked_read bytes list now read is =
    record {
      same = ap text is ∙ text_linked list ∙ read.same;
      children = ap linked is ∙ linked_twice list ∙ sym is;
      plan = λ m law g t e. is ∙ ap linked (read.plan m law g t e) ∙ linked_plan m law t;
    }
