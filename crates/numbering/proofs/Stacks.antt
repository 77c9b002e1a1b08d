-- Stacks of goals due in a work buffer, and the sizes of what is due.
use Rattle.std.proofs.Common.{◌≡◌, ℕ, zero, suc, ◌+◌, ◌<◌, ◌≤◌, List, [], ◌∷◌, length, set, Some, None, Option, refl, ap, ◌∙◌, ap₂, add-one, arith, length-set}
use Rattle.std.proofs.lemmas.List.{get_or-set_other, get_or-set_same}
use Rattle.std.specs.List.{AllByRecursion, slice_get}
use Rattle.spaces.specs.declared.space.Alternative.{Alternative}
use Rattle.spaces.specs.Spaces.{Lawful, Meaning}
use Rattle.numbering.specs.declared.due.Due.{Due}
use Rattle.numbering.specs.Dues.{Pile, children, due, places, push, stack}
use Rattle.numbering.specs.Plans.{count, left_due, right_due, size, ways}
use Rattle.numbering.proofs.Counts.{count_goal, size_none}
use Rattle.numbering.proofs.Picks.{place}
use Rattle.numbering.proofs.Sizes.{size_falls}

stack_set : (n : ℕ) (w : List Due) (i : ℕ) (d : Due) → n ≤ i → stack n (set w i d) ≡ stack n w
stack_set zero w i d h = refl
stack_set (suc n) w i d h = ap₂ (λ (x : Due) (s : List Due). x ∷ s) (get_or-set_other w i n d (due 0 0) (λ e. omega arith)) (stack_set n w i d (omega arith))

-- an entry written behind the stack is on top of it
pub stack_push : (w : List Due) (i : ℕ) (d : Due) → i < length w → stack (i + 1) (set w i d) ≡ d ∷ stack i w
stack_push w i d h =
    ap (λ n. stack n (set w i d)) (add-one i)
    ∙ ap₂ (λ (x : Due) (s : List Due). x ∷ s) (get_or-set_same w i d (due 0 0) h) (stack_set i w i d (omega arith))

pub length_stack : (n : ℕ) (w : List Due) → length (stack n w) ≡ n
length_stack zero w = refl
length_stack (suc n) w = ap suc (length_stack n w)

-- the step of a push, where the buffer w shows as the pile p
module _ (w : List Due) (n : ℕ) (d : Due) (p : Pile) (is : record { dues = stack n w; room = length w } ≡ p) (room : length p.dues < p.room) where
  pub push_below : n < length w
  push_below = omega (arith, room, ap (λ (q : Pile). length q.dues) is, ap (λ (q : Pile). q.room) is, length_stack n w)

  pub push_is : ◌≡◌ {A = Pile} (record { dues = stack (n + 1) (set w n d); room = length (set w n d) }) (record { dues = d ∷ p.dues; room = p.room })
  push_is =
      let dues = stack_push w n d push_below ∙ ap (λ (q : Pile). d ∷ q.dues) is in
      let long = length-set w n d ∙ ap (λ (q : Pile). q.room) is in
      λ i. record { dues = dues i; room = long i }

-- ---- sizes

abbrev pub sizes : Meaning → List Due → ℕ
sizes m [] = 0
sizes m (d ∷ s) = size m (Some d.goal) + sizes m s

-- some plan is there for the goal due
abbrev pub HasPlan : Meaning → Due → Type 0
HasPlan m d = 0 < count m (Some d.goal)

pub length_push : (o : Option ℕ) (n : ℕ) (s : List Due) → length (push o n s) ≡ places o + length s
length_push None n s = omega arith
length_push (Some g) n s = omega arith

pub all_push : (P : Due → Type 0) (o : Option ℕ) (n : ℕ) (s : List Due) → ((g : ℕ) → o ≡ Some g → P (due g n)) → AllByRecursion P s → AllByRecursion P (push o n s)
all_push P None n s h all = all
all_push P (Some g) n s h all = (h g refl, all)

module _ (m : Meaning) (law : Lawful m) where
  sizes_push : (o : Option ℕ) (n : ℕ) (s : List Due) → sizes m (push o n s) ≡ size m o + sizes m s
  sizes_push None n s = omega (arith, size_none m law)
  sizes_push (Some g) n s = refl

  -- a goal that has a plan has a size
  pub size_some : (g : ℕ) → 0 < count m (Some g) → 0 < size m (Some g)
  size_some g h =
      let p = place (count m) (m.lists g) 0 (omega (arith, count_goal m law g)) in
      omega (arith, size_falls m law g p.index p.alternative p.found (omega (arith, p.within)))

  pub length_sizes : (s : List Due) → AllByRecursion (HasPlan m) s → length s ≤ sizes m s
  length_sizes [] h = omega arith
  length_sizes (d ∷ s) h = omega (arith, length_sizes s h.1, size_some d.goal h.0)

  -- a live alternative in place of its goal: the sizes fall
  pub sizes_fall : (g i n x y : ℕ) (a : Alternative) (s : List Due) → slice_get (m.lists g) i ≡ Some a → 0 < ways (count m) a → sizes m (children a x y s) < sizes m (due g n ∷ s)
  sizes_fall g i n x y a s e w =
      omega (arith, sizes_push (left_due a) x (push (right_due a) y s), sizes_push (right_due a) y s, size_falls m law g i a e w)

pub length_children : (a : Alternative) (x y : ℕ) (s : List Due) → length (children a x y s) ≡ length s + (places (left_due a) + places (right_due a))
length_children a x y s = omega (arith, length_push (left_due a) x (push (right_due a) y s), length_push (right_due a) y s)
