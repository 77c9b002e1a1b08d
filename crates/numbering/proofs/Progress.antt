-- How far a list has been read as a plan, with the goals due on a stack.
use Rattle.std.proofs.Common.{◌≡◌, ℕ, zero, suc, ◌+◌, ◌*◌, ◌<◌, ◌≤◌, List, [], ◌∷◌, ◌++◌, map, length, take, Some, None, Option, sym, refl, ap, ◌∙◌, subst, subst₂, append_assoc, append-nil, mul_assoc, mul-le-mul_left, le-mul_of_pos_right, add-one, arith}
use Rattle.std.specs.List.{AllByRecursion, slice_get}
use Rattle.spaces.specs.declared.space.Alternative.{Alternative}
use Rattle.spaces.specs.Spaces.{Lawful, Meaning}
use Rattle.spaces.specs.Places.{none_some, some_inj}
use Rattle.numbering.specs.declared.due.Due.{Due}
use Rattle.numbering.specs.declared.node.Node.{Node}
use Rattle.numbering.specs.Beginnings.{Begins, Live, due_after, due_then, goals_of}
use Rattle.numbering.specs.Dues.{children, due, places, popped, push}
use Rattle.numbering.specs.Numbers.{Numbers}
use Rattle.numbering.specs.Plans.{Complete, all_ways, count, left_due, nodes, number, right_due, ways}
use Rattle.numbering.specs.Refusals.{largest, plans}
use Rattle.numbering.specs.Standing.{Before}
use Rattle.numbering.proofs.Counts.{count_goal, left_under, right_under}
use Rattle.numbering.proofs.Picks.{before_below}
use Rattle.numbering.proofs.Readings.{Rest, step_in, step_out, weighted}
use Rattle.numbering.proofs.Sizes.{ways_left, ways_right}
use Rattle.numbering.proofs.Stacks.{HasPlan, all_push, length_children, length_sizes, sizes, sizes_fall}
use Rattle.numbering.proofs.Trees.{make, number_below}

abbrev pub goals : List Due → List ℕ
goals s = map (λ (d : Due). d.goal) s

abbrev rest_of : List Due → List Due
rest_of [] = []
rest_of (d ∷ s) = s

-- a goal of the space, whose weight keeps its plans' part of the number within N
pub record Weighed (m : Meaning) (d : Due) : Type 0 where
  pub goal_below : d.goal < m.goals
  pub most : d.number * count m (Some d.goal) ≤ plans m

-- the first `place` nodes of the list have been read: they are what the goals due on the stack s, with their weights, leave of a plan of the root;
-- `number` is their part of its number
pub record Reading (m : Meaning) (list : List Node) (place : ℕ) (s : List Due) (number : ℕ) : Type 0 where
  pub forth : (xs : List Node) (n : ℕ) → Rest m s xs n → Rest m (due m.root 1 ∷ []) (take place list ++ xs) (number + n)
  pub back : (xs : List Node) (n : ℕ) → Rest m (due m.root 1 ∷ []) (take place list ++ xs) n → (k : ℕ) × Rest m s xs k
  pub dues : due_after (m.root ∷ []) (take place list) ≡ goals s
  pub weighed : AllByRecursion (Weighed m) s
  pub later : AllByRecursion (HasPlan m) (rest_of s)
  pub live : 0 < plans m → AllByRecursion (HasPlan m) s
  pub begun : plans m ≡ 0 → place ≡ 0
  pub fits : place + sizes m s ≤ largest m

-- ---- the goal due next

module _ (m : Meaning) (list : List Node) (place read : ℕ) (s : List Due) (o : Option Due) (held : Reading m list place (popped o s) read) where
  pub some_due : (d : Due) → o ≡ Some d → Reading m list place (d ∷ s) read
  some_due d e = subst (λ p. Reading m list place (popped p s) read) e held

  pub none_due : o ≡ None → Reading m list place [] read
  none_due e = subst (λ p. Reading m list place (popped p s) read) e held

-- ---- lists

pub take_some : {X : Type 0} (xs : List X) (i : ℕ) (x : X) → slice_get xs i ≡ Some x → take (i + 1) xs ≡ take i xs ++ (x ∷ [])
take_some [] i x e = none_some e
take_some (y ∷ ys) zero x e = ap (λ z. z ∷ []) (some_inj e)
take_some (y ∷ ys) (suc i) x e = rw (add-one (suc i)) (ap (λ (zs : List _). y ∷ zs) (rw add-one at (take_some ys i x e)))

nothing_due : (xs : List Node) → due_after [] xs ≡ []
nothing_due [] = refl
nothing_due (x ∷ xs) = refl

due_append : (s : List ℕ) (xs ys : List Node) → due_after s (xs ++ ys) ≡ due_after (due_after s xs) ys
due_append s [] ys = refl
due_append [] (x ∷ xs) ys = sym (nothing_due ys)
due_append (g ∷ s) (x ∷ xs) ys = due_append (due_then x.alternative s) xs ys

goals_push : (o : Option ℕ) (n : ℕ) (s : List Due) → goals (push o n s) ≡ goals_of o ++ goals s
goals_push None n s = refl
goals_push (Some g) n s = refl

goals_children : (a : Alternative) (x y : ℕ) (s : List Due) → due_then a (goals s) ≡ goals (children a x y s)
goals_children a x y s =
    sym (goals_push (left_due a) x (push (right_due a) y s) ∙ ap (λ t. goals_of (left_due a) ++ t) (goals_push (right_due a) y s))

all_rest : (P : Due → Type 0) (s : List Due) → AllByRecursion P s → AllByRecursion P (rest_of s)
all_rest P [] h = tt
all_rest P (d ∷ s) h = h.1

-- ---- plans of what is due

module _ (m : Meaning) (law : Lawful m) where
  completion : (s : List Due) → AllByRecursion (HasPlan m) s → (xs : List Node) × (n : ℕ) × Rest m s xs n
  completion [] h = ([], 0, (refl, refl))
  completion (d ∷ s) h =
      let t = make m law (suc d.goal) (Some d.goal) 0 (λ g e. omega (arith, some_inj e)) h.0 in
      let r = completion s h.1 in
      (nodes t.0 ++ r.0, d.number * number t.0 + r.1, record { top = t.0; tail = r.0; left = r.1; whole = refl; sum = refl; rest = r.2 })

  pub rest_numbers : (xs : List Node) (n : ℕ) → Rest m (due m.root 1 ∷ []) xs n → Numbers m xs n
  rest_numbers xs n r = (r.top, sym (append-nil (nodes r.top)) ∙ ap (λ t. nodes r.top ++ t) r.rest.0 ∙ r.whole, omega (arith, r.sum, r.rest.1))

  pub complete_rest : (xs : List Node) → Complete m xs → (n : ℕ) × Rest m (due m.root 1 ∷ []) xs n
  complete_rest xs c =
      (number c.0, record { top = c.0; tail = []; left = 0; whole = append-nil (nodes c.0) ∙ c.1; sum = omega arith; rest = (refl, refl) })

  pub reading_start : (list : List Node) (root : ℕ) → root ≡ m.root → 0 < m.goals → Reading m list 0 (due root 1 ∷ []) 0
  reading_start list root e h =
      let below : m.root < m.goals = law.root_below h in
      subst (λ r. Reading m list 0 (due r 1 ∷ []) 0) (sym e)
      (record {
        forth = λ xs n r. let z : n ≡ 0 + n = omega arith in subst (Rest m (due m.root 1 ∷ []) xs) z r;
        back = λ xs n r. (n, r);
        dues = refl;
        weighed = (record { goal_below = below; most = omega arith }, tt);
        later = tt;
        live = λ some. (some, tt);
        begun = λ _. refl;
        fits = omega arith;
      })

  module _ (list : List Node) (place : ℕ) (s : List Due) (read : ℕ) (held : Reading m list place s read) where
    -- where something has a plan, the part read so far is a number below N
    pub read_below : AllByRecursion (HasPlan m) s → read < plans m
    read_below all =
        let r = completion s all in
        let p = rest_numbers (take place list ++ r.0) (read + r.1) (held.forth r.0 r.1 r.2) in
        omega (arith, number_below m law p.0, p.2)

    pub reading_begins : 0 < plans m → Begins m (take place list)
    reading_begins some =
        let r = completion s (held.live some) in
        let p = rest_numbers (take place list ++ r.0) (read + r.1) (held.forth r.0 r.1 r.2) in
        (r.0, (p.0, p.1))

  -- ---- a node is read

  module _ (list : List Node) (place g w read : ℕ) (a : Alternative) (s : List Due) (held : Reading m list place (due g w ∷ s) read)
      (at : slice_get list place ≡ Some (record { goal = g; alternative = a })) (live : Live m g a) (b : ℕ)
      (before : b ≡ all_ways (count m) (take live.index (m.lists g))) where
    abbrev x : Node
    x = record { goal = g; alternative = a }

    abbrev next : List Due
    next = weighted m a w s

    left_some : 0 < count m (left_due a)
    left_some = ways_left (count m (left_due a)) (count m (right_due a)) live.some

    right_some : 0 < count m (right_due a)
    right_some = ways_right (count m (left_due a)) (count m (right_due a)) live.some

    goal_most : w * count m (Some g) ≤ plans m
    goal_most = held.weighed.0.most

    ways_most : b + ways (count m) a ≤ count m (Some g)
    ways_most = omega (arith, before_below (count m) (m.lists g) live.index a live.found, count_goal m law g)

    pub before_most : w * b ≤ plans m
    before_most = let h : b ≤ count m (Some g) = omega (arith, ways_most) in omega (arith, goal_most, mul-le-mul_left w h)

    pub left_most : w * count m (left_due a) ≤ plans m
    left_most =
        let l : count m (left_due a) ≤ count m (left_due a) * count m (right_due a) = le-mul_of_pos_right (count m (left_due a)) right_some in
        let h : count m (left_due a) ≤ count m (Some g) = omega (arith, ways_most) in
        omega (arith, goal_most, mul-le-mul_left w h)

    right_most : (w * count m (left_due a)) * count m (right_due a) ≤ plans m
    right_most =
        let h : count m (left_due a) * count m (right_due a) ≤ count m (Some g) = omega (arith, ways_most) in
        omega (arith, goal_most, mul-le-mul_left w h, mul_assoc w (count m (left_due a)) (count m (right_due a)))

    pub next_plans : AllByRecursion (HasPlan m) next
    next_plans =
        all_push (HasPlan m) (left_due a) w (push (right_due a) (w * count m (left_due a)) s) (λ h e. subst (λ o. 0 < count m o) e left_some)
        (all_push (HasPlan m) (right_due a) (w * count m (left_due a)) s (λ h e. subst (λ o. 0 < count m o) e right_some) held.later)

    next_weighed : AllByRecursion (Weighed m) next
    next_weighed =
        all_push (Weighed m) (left_due a) w (push (right_due a) (w * count m (left_due a)) s)
        (λ h e. record { goal_below = omega (arith, left_under m law g live.index a h live.found e, held.weighed.0.goal_below); most = subst (λ o. w * count m o ≤ plans m) e left_most })
        (all_push (Weighed m) (right_due a) (w * count m (left_due a)) s
        (λ h e. record {
          goal_below = omega (arith, right_under m law g live.index a h live.found e, held.weighed.0.goal_below);
          most = subst (λ o. (w * count m (left_due a)) * count m o ≤ plans m) e right_most;
        })
        held.weighed.1)

    longer : (xs : List Node) → take (place + 1) list ++ xs ≡ take place list ++ (x ∷ xs)
    longer xs = ap (λ t. t ++ xs) (take_some list place x at) ∙ append_assoc (take place list) (x ∷ []) xs

    next_forth : (xs : List Node) (n : ℕ) → Rest m next xs n → Rest m (due m.root 1 ∷ []) (take (place + 1) list ++ xs) ((read + w * b) + n)
    next_forth xs n r =
        let k = all_ways (count m) (take live.index (m.lists g)) in
        let sum : read + (w * k + n) ≡ (read + w * b) + n = ap (λ j. read + (w * j + n)) (sym before) ∙ omega arith in
        subst₂ (Rest m (due m.root 1 ∷ [])) (sym (longer xs)) sum (held.forth (x ∷ xs) (w * k + n) (step_in m g w live.index a s xs n live.found r))

    next_back : (xs : List Node) (n : ℕ) → Rest m (due m.root 1 ∷ []) (take (place + 1) list ++ xs) n → (k : ℕ) × Rest m next xs k
    next_back xs n r =
        let p = held.back (x ∷ xs) n (subst (λ t. Rest m (due m.root 1 ∷ []) t n) (longer xs) r) in
        let q = step_out m law (due g w) s x xs p.0 p.1 in
        (q.left, q.rest)

    next_fits : (place + 1) + sizes m next ≤ largest m
    next_fits = omega (arith, held.fits, sizes_fall m law g live.index w w (w * count m (left_due a)) a s live.found live.some)

    -- the children fit on the stack
    pub next_room : length s + (places (left_due a) + places (right_due a)) ≤ largest m
    next_room = omega (arith, next_fits, length_sizes m law next next_plans, length_children a w (w * count m (left_due a)) s)

    some_plans : 0 < plans m
    some_plans =
        let r = completion next next_plans in
        let p = rest_numbers (take (place + 1) list ++ r.0) ((read + w * b) + r.1) (next_forth r.0 r.1 r.2) in
        omega (arith, number_below m law p.0)

    pub reading_more : Reading m list (place + 1) next (read + w * b)
    reading_more = record {
      forth = next_forth;
      back = next_back;
      dues =
          ap (due_after (m.root ∷ [])) (take_some list place x at)
          ∙ due_append (m.root ∷ []) (take place list) (x ∷ [])
          ∙ ap (λ t. due_after t (x ∷ [])) held.dues
          ∙ goals_children a w (w * count m (left_due a)) s;
      weighed = next_weighed;
      later = all_rest (HasPlan m) next next_plans;
      live = λ _. next_plans;
      begun = λ none. absurd (omega (arith, some_plans));
      fits = next_fits;
    }

  -- what a turn of the loop has, once the node x at the place has been found to be a live alternative of the goal due
  pub record Turn (list : List Node) (place : ℕ) (d : Due) (x : Node) (s : List Due) (read b : ℕ) : Type 0 where
    pub part : d.number * b ≤ plans m
    pub below : read + d.number * b < plans m
    pub weight : d.number * count m (left_due x.alternative) ≤ plans m
    pub room : length s + (places (left_due x.alternative) + places (right_due x.alternative)) ≤ largest m
    pub more : Reading m list (place + 1) (weighted m x.alternative d.number s) (read + d.number * b)

  pub turn : (list : List Node) (place : ℕ) (d : Due) (x : Node) (s : List Due) (read b : ℕ) → Reading m list place (d ∷ s) read → slice_get list place ≡ Some x → x.goal ≡ d.goal →
      Before m x.goal x.alternative (Some b) → Turn list place d x s read b
  turn list place d x s read b held at same before =
      let g = x.goal in
      let w = d.number in
      let a = x.alternative in
      let d= : d ≡ due g w = λ i. record { goal = sym same i; number = w } in
      let held' : Reading m list place (due g w ∷ s) read = subst (λ e. Reading m list place (e ∷ s) read) d= held in
      let more = reading_more list place g w read a s held' at before.0 b before.1 in
      record {
        part = before_most list place g w read a s held' at before.0 b before.1;
        below = read_below list (place + 1) (weighted m a w s) (read + w * b) more (next_plans list place g w read a s held' at before.0 b before.1);
        weight = left_most list place g w read a s held' at before.0 b before.1;
        room = next_room list place g w read a s held' at before.0 b before.1;
        more = more;
      }

  -- the reading after the turn, over a stack t that was made with a count n that is the left child's
  pub read_on : (list : List Node) (place : ℕ) (d : Due) (x : Node) (s : List Due) (read b : ℕ) → Turn list place d x s read b → (t : List Due) (n : ℕ) →
      t ≡ children x.alternative d.number (d.number * n) s → n ≡ count m (left_due x.alternative) → Reading m list (place + 1) t (read + d.number * b)
  read_on list place d x s read b turn t n e h =
      subst (λ u. Reading m list (place + 1) u (read + d.number * b)) (sym (e ∙ ap (λ k. children x.alternative d.number (d.number * k) s) h)) turn.more
