-- The steps of a loop that reads a plan's list with a stack of goals and weights.
use Rattle.std.proofs.Common.{◌≡◌, ℕ, ◌+◌, ◌*◌, List, [], ◌∷◌, ◌++◌, take, Some, None, Option, sym, refl, ap, ◌∙◌, subst, subst₂, append_assoc, mul_assoc, mul-zero, mul-add, arith}
use Rattle.std.specs.List.{slice_get}
use Rattle.spaces.specs.declared.space.Alternative.{Alternative}
use Rattle.spaces.specs.Spaces.{Lawful, Meaning}
use Rattle.numbering.specs.declared.due.Due.{Due}
use Rattle.numbering.specs.declared.node.Node.{Node}
use Rattle.numbering.specs.Beginnings.{Live}
use Rattle.numbering.specs.Dues.{children, due, push}
use Rattle.numbering.specs.Plans.{Tree, all_ways, count, left_due, node, nodes, none, number, right_due}
use Rattle.numbering.proofs.Sizes.{tree_live, ways_both}
use Rattle.numbering.proofs.Trees.{head_same, tail_same}

pub record Split (m : Meaning) (o : Option ℕ) (w : ℕ) (P : List Node → ℕ → Type 0) (list : List Node) (n : ℕ) : Type 0 where
  pub top : Tree m o
  pub tail : List Node
  pub left : ℕ
  pub whole : nodes top ++ tail ≡ list
  pub sum : w * number top + left ≡ n
  pub rest : P tail left

-- the list is plans of the goals due, whose numbers times the weights add up to n
abbrev pub Rest : Meaning → List Due → List Node → ℕ → Type 0
Rest m [] list n = ([] ≡ list) × (0 ≡ n)
Rest m (d ∷ s) list n = Split m (Some d.goal) d.number (λ l k. Rest m s l k) list n

module _ (m : Meaning) where
  none_is : (t : Tree m None) → (nodes t ≡ []) × (number t ≡ 0)
  none_is none = (refl, refl)

  from_push : (o : Option ℕ) (w : ℕ) (s : List Due) (list : List Node) (n : ℕ) → Rest m (push o w s) list n → Split m o w (Rest m s) list n
  from_push None w s list n r = record { top = none; tail = list; left = n; whole = refl; sum = omega (arith, mul-zero w); rest = r }
  from_push (Some g) w s list n r = r

  to_push : (o : Option ℕ) (w : ℕ) (s : List Due) (list : List Node) (n : ℕ) → Split m o w (Rest m s) list n → Rest m (push o w s) list n
  to_push None w s list n p =
      let z = none_is p.top in
      let zero_times : w * number p.top ≡ 0 = ap (λ x. w * x) z.1 ∙ mul-zero w in
      subst₂ (Rest m s) (ap (λ x. x ++ p.tail) (sym z.0) ∙ p.whole) (omega (arith, p.sum)) p.rest
  to_push (Some g) w s list n p = p

  -- the children of a node whose goal has the weight w
  abbrev pub weighted : Alternative → ℕ → List Due → List Due
  weighted a w s = children a w (w * count m (left_due a)) s

  spread : (w b x c y k : ℕ) → w * (b + (x + c * y)) + k ≡ w * b + (w * x + ((w * c) * y + k))
  spread w b x c y k = omega (arith, mul-add w b (x + c * y), mul-add w x (c * y), mul_assoc w c y)

  -- a node read: what its children leave to read is what its goal left
  pub step_in : (g w i : ℕ) (a : Alternative) (s : List Due) (xs : List Node) (n : ℕ) → slice_get (m.lists g) i ≡ Some a → Rest m (weighted a w s) xs n
      → Rest m (due g w ∷ s) (record { goal = g; alternative = a } ∷ xs) (w * all_ways (count m) (take i (m.lists g)) + n)
  step_in g w i a s xs n e r =
      let p = from_push (left_due a) w (push (right_due a) (w * count m (left_due a)) s) xs n r in
      let q = from_push (right_due a) (w * count m (left_due a)) s p.tail p.left p.rest in
      record {
        top = node i a e p.top q.top;
        tail = q.tail;
        left = q.left;
        whole =
            ap (λ (y : List Node). record { goal = g; alternative = a } ∷ y)
            (append_assoc (nodes p.top) (nodes q.top) q.tail ∙ ap (λ y. nodes p.top ++ y) q.whole ∙ p.whole);
        sum =
            spread w (all_ways (count m) (take i (m.lists g))) (number p.top) (count m (left_due a)) (number q.top) q.left
            ∙ omega (arith, p.sum, q.sum);
        rest = q.rest;
      }

module _ (m : Meaning) (law : Lawful m) where
  -- what a list of the goals due tells of its first node
  pub record Read (g w : ℕ) (s : List Due) (x : Node) (xs : List Node) (n : ℕ) : Type 0 where
    pub goal_is : x.goal ≡ g
    pub live : Live m g x.alternative
    pub left : ℕ
    pub rest : Rest m (weighted m x.alternative w s) xs left
    pub sum : w * all_ways (count m) (take live.index (m.lists g)) + left ≡ n

  out : (g w : ℕ) (s : List Due) (x : Node) (xs : List Node) (n : ℕ) (t : Tree m (Some g)) (tail : List Node) (k : ℕ)
      → nodes t ++ tail ≡ x ∷ xs → w * number t + k ≡ n → Rest m s tail k → Read g w s x xs n
  out g w s x xs n (node i a e l r) tail k whole sum rest =
      let n= : record { goal = g; alternative = a } ≡ x = head_same whole in
      let a= : a ≡ x.alternative = ap (λ (y : Node). y.alternative) n= in
      let cl = count m (left_due a) in
      let inner : Rest m (push (right_due a) (w * cl) s) (nodes r ++ tail) ((w * cl) * number r + k)
      = to_push m (right_due a) (w * cl) s (nodes r ++ tail) ((w * cl) * number r + k) (record { top = r; tail = tail; left = k; whole = refl; sum = refl; rest = rest }) in
      let outer : Rest m (weighted m a w s) xs (w * number l + ((w * cl) * number r + k))
      = to_push m (left_due a) w (push (right_due a) (w * cl) s) xs (w * number l + ((w * cl) * number r + k))
      (record { top = l; tail = nodes r ++ tail; left = (w * cl) * number r + k; whole = sym (append_assoc (nodes l) (nodes r) tail) ∙ tail_same whole; sum = refl; rest = inner }) in
      let some = ways_both cl (count m (right_due a)) (tree_live m law l) (tree_live m law r) in
      subst (λ (y : Node). Read g w s y xs n) n=
      (record {
        goal_is = refl;
        live = record { index = i; found = e; some = some };
        left = w * number l + ((w * cl) * number r + k);
        rest = outer;
        sum = sym (spread m w (all_ways (count m) (take i (m.lists g))) (number l) cl (number r) k) ∙ sum;
      })

  pub step_out : (d : Due) (s : List Due) (x : Node) (xs : List Node) (n : ℕ) → Rest m (d ∷ s) (x ∷ xs) n → Read d.goal d.number s x xs n
  step_out d s x xs n p = out d.goal d.number s x xs n p.top p.tail p.left p.whole p.sum p.rest

  -- a goal that is due wants at least one node
  no_nodes : {g : ℕ} (t : Tree m (Some g)) (tail : List Node) → nodes t ++ tail ≡ [] → ⊥
  no_nodes (node i a e l r) tail h = let z : ◌≡◌ {A = ℕ} 0 1 = cc in omega arith

  pub not_empty : (d : Due) (s : List Due) (n : ℕ) → Rest m (d ∷ s) [] n → ⊥
  not_empty d s n p = no_nodes p.top p.tail p.whole
