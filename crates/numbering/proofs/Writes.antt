-- The steps of a loop that writes the plan of a number, with a stack of goals and numbers.
use Rattle.std.proofs.Common.{◌≡◌, ℕ, ◌+◌, ◌*◌, ◌/◌, ◌%◌, ◌<◌, ◌≤◌, List, [], ◌∷◌, ◌++◌, length, take, drop, set, Some, None, Option, sym, refl, ap, ◌∙◌, subst, ap₂, append_assoc, append-nil, arith}
use native.Mathlib.Nat.{mod-add-div}
use Rattle.std.proofs.lemmas.Nat.{div_below, mod_below}
use Rattle.std.proofs.lemmas.List.{drop-drop, drop-set-lt, length-take-le, take-append-drop, take_more_set}
use Rattle.std.specs.List.{AllByRecursion}
use Rattle.spaces.specs.declared.space.Alternative.{Alternative}
use Rattle.spaces.specs.Spaces.{Lawful, Meaning}
use Rattle.numbering.specs.declared.due.Due.{Due}
use Rattle.numbering.specs.declared.node.Node.{Node}
use Rattle.numbering.specs.Dues.{children, due, places, push}
use Rattle.numbering.specs.Plans.{Tree, all_ways, count, left_due, node, nodes, none, number, right_due}
use Rattle.numbering.specs.Refusals.{largest, plans}
use Rattle.numbering.specs.Standing.{Falls, Written}
use Rattle.numbering.specs.Tallies.{most_nodes}
use Rattle.numbering.proofs.Counts.{count_none, left_under, right_under}
use Rattle.numbering.proofs.Sizes.{ways_left}
use Rattle.numbering.proofs.Stacks.{HasPlan, all_push, length_children, length_sizes, sizes, sizes_fall}

pub record Part (m : Meaning) (o : Option ℕ) (n : ℕ) (P : List Node → Type 0) (list : List Node) : Type 0 where
  pub top : Tree m o
  pub tail : List Node
  pub numbered : number top ≡ n
  pub whole : nodes top ++ tail ≡ list
  pub rest : P tail

-- the list is the plans of the wanted goals and numbers, in order
abbrev pub Gives : Meaning → List Due → List Node → Type 0
Gives m [] list = [] ≡ list
Gives m (d ∷ s) list = Part m (Some d.goal) d.number (λ l. Gives m s l) list

-- a goal of the space and the number of one of its plans
pub record Good (m : Meaning) (d : Due) : Type 0 where
  pub goal_below : d.goal < m.goals
  pub number_below : d.number < count m (Some d.goal)

good_plan : (m : Meaning) (s : List Due) → AllByRecursion (Good m) s → AllByRecursion (HasPlan m) s
good_plan m [] h = tt
good_plan m (d ∷ s) h = (omega (arith, h.0.number_below), good_plan m s h.1)

module _ (m : Meaning) (law : Lawful m) where
  of_push : (o : Option ℕ) (n : ℕ) (s : List Due) (list : List Node) → n < count m o → Gives m (push o n s) list → Part m o n (Gives m s) list
  of_push None n s list h r = record { top = none; tail = list; numbered = omega (arith, count_none m law); whole = refl; rest = r }
  of_push (Some g) n s list h r = r

  module _ (g n : ℕ) (a : Alternative) (k : ℕ) (falls : Falls m g n a k) where
    pub left_some : 0 < count m (left_due a)
    left_some = ways_left (count m (left_due a)) (count m (right_due a)) (omega (arith, falls.within))

    left_share : k % count m (left_due a) < count m (left_due a)
    left_share = mod_below k (count m (left_due a)) left_some

    right_share : k / count m (left_due a) < count m (right_due a)
    right_share = div_below k (count m (left_due a)) (count m (right_due a)) left_some (omega (arith, falls.within))

    -- what the children's shares give, with the node before it, is what the number gives
    step : (s : List Due) (xs : List Node) → Gives m (children a (k % count m (left_due a)) (k / count m (left_due a)) s) xs
        → Part m (Some g) n (Gives m s) (record { goal = g; alternative = a } ∷ xs)
    step s xs r =
        let cl = count m (left_due a) in
        let p = of_push (left_due a) (k % cl) (push (right_due a) (k / cl) s) xs left_share r in
        let q = of_push (right_due a) (k / cl) s p.tail right_share p.rest in
        record {
          top = node falls.index a falls.found p.top q.top;
          tail = q.tail;
          numbered =
              ap (λ x. all_ways (count m) (take falls.index (m.lists g)) + x) (ap₂ (λ x y. x + cl * y) p.numbered q.numbered ∙ mod-add-div k cl)
              ∙ falls.sum;
          whole =
              ap (λ (y : List Node). record { goal = g; alternative = a } ∷ y)
              (append_assoc (nodes p.top) (nodes q.top) q.tail ∙ ap (λ y. nodes p.top ++ y) q.whole ∙ p.whole);
          rest = q.rest;
        }

    good_children : (s : List Due) → g < m.goals → AllByRecursion (Good m) s → AllByRecursion (Good m) (children a (k % count m (left_due a)) (k / count m (left_due a)) s)
    good_children s below all =
        let cl = count m (left_due a) in
        all_push (Good m) (left_due a) (k % cl) (push (right_due a) (k / cl) s)
        (λ h e. record { goal_below = omega (arith, left_under m law g falls.index a h falls.found e); number_below = subst (λ o. k % cl < count m o) e left_share })
        (all_push (Good m) (right_due a) (k / cl) s
        (λ h e. record { goal_below = omega (arith, right_under m law g falls.index a h falls.found e); number_below = subst (λ o. k / cl < count m o) e right_share })
        all)

-- shares that were worked out with a count c that is the left child's
pub shared : (a : Alternative) (k c n : ℕ) (p : ℕ × ℕ) (s t : List Due) → t ≡ children a p.0 p.1 s → p ≡ (k % c, k / c) → c ≡ n → t ≡ children a (k % n) (k / n) s
shared a k c n p s t e q h = e ∙ ap (λ (x : ℕ × ℕ). children a x.0 x.1 s) q ∙ ap (λ x. children a (k % x) (k / x) s) h

-- while the plan of a number is written: len nodes stand, and what the stack s gives completes them
pub record Writing (m : Meaning) (number : ℕ) (start plan : List Node) (s : List Due) (len : ℕ) : Type 0 where
  pub gives : (xs : List Node) → Gives m s xs → Gives m (due m.root number ∷ []) (take len plan ++ xs)
  pub good : AllByRecursion (Good m) s
  pub fits : len + sizes m s ≤ largest m
  pub rest : drop len plan ≡ drop len start

pub writing_start : (m : Meaning) (number root : ℕ) (plan : List Node) → root ≡ m.root → m.root < m.goals → number < plans m → Writing m number plan plan (due root number ∷ []) 0
writing_start m number root plan e below h =
    subst (λ r. Writing m number plan plan (due r number ∷ []) 0) (sym e)
    (record { gives = λ xs r. r; good = (record { goal_below = below; number_below = h }, tt); fits = omega arith; rest = refl })

-- over the same stack as it is seen elsewhere
pub writing_as : {m : Meaning} {number : ℕ} {start plan : List Node} {s t : List Due} {len : ℕ} → t ≡ s → Writing m number start plan s len → Writing m number start plan t len
writing_as {m} {number} {start} {plan} {len = len} e held = subst (λ s. Writing m number start plan s len) (sym e) held

module _ (m : Meaning) (law : Lawful m) (number : ℕ) (start plan : List Node) (d : Due) (under : List Due) (len : ℕ) (held : Writing m number start plan (d ∷ under) len)
    (a : Alternative) (k : ℕ) (falls : Falls m d.goal d.number a k) where
  abbrev next : List Due
  next = children a (k % count m (left_due a)) (k / count m (left_due a)) under

  next_good : AllByRecursion (Good m) next
  next_good = good_children m law d.goal d.number a k falls under held.good.0.goal_below held.good.1

  next_less : sizes m next < sizes m (d ∷ under)
  next_less =
      sizes_fall m law d.goal falls.index d.number (k % count m (left_due a)) (k / count m (left_due a)) a under falls.found (omega (arith, falls.within))

  -- the children fit on the stack
  pub next_room : length under + (places (left_due a) + places (right_due a)) ≤ largest m
  next_room =
      omega (
        arith,
        held.fits,
        next_less,
        length_sizes m law next (good_plan m next next_good),
        length_children a (k % count m (left_due a)) (k / count m (left_due a)) under,
      )

  pub writing_more : (t : List Due) → len < length plan → t ≡ next → Writing m number start (set plan len (record { goal = d.goal; alternative = a })) t (len + 1)
  writing_more t room e =
      let x : Node = record { goal = d.goal; alternative = a } in
      let whole : (xs : List Node) → take (len + 1) (set plan len x) ++ xs ≡ take len plan ++ (x ∷ xs)
      = λ xs. ap (λ t. t ++ xs) (take_more_set plan len x room) ∙ append_assoc (take len plan) (x ∷ []) xs in
      record {
        gives = λ xs r.
            subst (Gives m (due m.root number ∷ [])) (sym (whole xs)) (held.gives (x ∷ xs) (step m law d.goal d.number a k falls under xs (subst (λ s. Gives m s xs) e r)));
        good = subst (AllByRecursion (Good m)) (sym e) next_good;
        fits = omega (arith, ap (sizes m) e, next_less, held.fits);
        rest = drop-set-lt (len + 1) plan len x (omega arith) ∙ sym (drop-drop 1 len plan) ∙ ap (drop 1) held.rest ∙ drop-drop 1 len start;
      }

pub writing_end : (m : Meaning) (number : ℕ) (start plan : List Node) (len : ℕ) → Writing m number start plan [] len → largest m ≤ length plan → largest m ≤ most_nodes →
    Written m number len start plan
writing_end m number start plan len held room small =
    let p = held.gives [] refl in
    let short : len ≤ length plan = omega (arith, held.fits) in
    record {
      list = take len plan;
      numbers = (p.top, sym (append-nil (nodes p.top)) ∙ ap (λ t. nodes p.top ++ t) p.rest ∙ p.whole ∙ append-nil (take len plan), p.numbered);
      long = sym (length-take-le len plan short);
      small = omega (arith, held.fits);
      buffer = sym (take-append-drop len plan) ∙ ap (λ t. take len plan ++ t) held.rest;
    }

-- where as many nodes stand as the largest plan has, nothing is due
pub writing_full : (m : Meaning) (law : Lawful m) (number : ℕ) (start plan : List Node) (s : List Due) (len : ℕ) → Writing m number start plan s len → largest m ≤ len → s ≡ []
writing_full m law number start plan [] len held full = refl
writing_full m law number start plan (d ∷ s) len held full = absurd (omega (arith, held.fits, length_sizes m law (d ∷ s) (good_plan m (d ∷ s) held.good)))
