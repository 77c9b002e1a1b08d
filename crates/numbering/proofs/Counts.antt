-- The count of a goal is the sum over its alternatives.
use Rattle.std.proofs.Common.{◌≡◌, ℕ, zero, suc, ◌+◌, ◌*◌, ◌<◌, ◌≤◌, max, List, [], ◌∷◌, Some, None, Option, refl, subst, ap₂, arith}
use Rattle.spaces.specs.declared.space.Alternative.{Alternative}
use Rattle.spaces.specs.declared.kind.Kind.{Kind}
use Rattle.spaces.specs.declared.kind.Kind.TheVariants.{Scan, IndexScan, HashJoin, MergeJoin, NestedLoops, Filter, Sort}
use Rattle.spaces.specs.Kinds.{arity}
use Rattle.spaces.specs.Spaces.{Meaning, Lawful, Sound}
use Rattle.std.specs.List.{slice_get}
use Rattle.spaces.specs.Places.{all_nth, none_some, some_inj}
use Rattle.numbering.specs.Plans.{first, second, left_due, right_due, at_due, ways, all_ways, when_live, longest, Rule, to_depth, of_goals, count, size}

first_some : (n g h : ℕ) → first n g ≡ Some h → (1 ≤ n) × (g ≡ h)
first_some zero g h e = none_some e
first_some (suc n) g h e = (omega arith, some_inj e)

second_some : (n g h : ℕ) → second n g ≡ Some h → (2 ≤ n) × (g ≡ h)
second_some zero g h e = none_some e
second_some (suc zero) g h e = none_some e
second_some (suc (suc n)) g h e = (omega arith, some_inj e)

arity_most : (k : Kind) → arity k ≤ 2
arity_most Scan = omega arith
arity_most IndexScan = omega arith
arity_most HashJoin = omega arith
arity_most MergeJoin = omega arith
arity_most NestedLoops = omega arith
arity_most Filter = omega arith
arity_most Sort = omega arith

-- a rule reads only what is due at the alternatives
pub Local : Rule → Type 0
Local F = (p q : Option ℕ → ℕ) (xs : List Alternative) → ((i : ℕ) (a : Alternative) → slice_get xs i ≡ Some a → (p (left_due a) ≡ q (left_due a)) × (p (right_due a) ≡ q (right_due a))) → F p xs ≡ F q xs

all_ways_local : Local all_ways
unfolding Local
all_ways_local p q [] h = refl
all_ways_local p q (a ∷ xs) h = let here = h 0 a refl in ap₂ ◌+◌ (ap₂ ◌*◌ here.0 here.1) (all_ways_local p q xs (λ i b e. h (suc i) b e))

longest_local : (c : Option ℕ → ℕ) → Local (longest c)
unfolding Local
longest_local c p q [] h = refl
longest_local c p q (a ∷ xs) h =
    let here = h 0 a refl in
    ap₂ max (ap₂ (λ x y. when_live (ways c a) (suc (x + y))) here.0 here.1) (longest_local c p q xs (λ i b e. h (suc i) b e))

module _ (m : Meaning) (law : Lawful m) where
  pub left_under : (g i : ℕ) (a : Alternative) (h : ℕ) → slice_get (m.lists g) i ≡ Some a → left_due a ≡ Some h → h < g
  left_under g i a h at e =
      let s = all_nth (Sound g) (m.lists g) i a (law.sound g) at in
      let f = first_some (arity a.kind) a.left h e in
      let b : a.left < g = s.left_below f.0 in
      subst (λ x. x < g) f.1 b

  pub right_under : (g i : ℕ) (a : Alternative) (h : ℕ) → slice_get (m.lists g) i ≡ Some a → right_due a ≡ Some h → h < g
  right_under g i a h at e =
      let s = all_nth (Sound g) (m.lists g) i a (law.sound g) at in
      let f = second_some (arity a.kind) a.right h e in
      let b : a.right < g = s.right_below (omega (arith, arity_most a.kind)) in
      subst (λ x. x < g) f.1 b

  module _ (one : ℕ) (F : Rule) (local : Local F) where
    -- at what is due, two functions that agree below g agree
    due_same : (p q : ℕ → ℕ) (g : ℕ) → ((h : ℕ) → h < g → p h ≡ q h) → (o : Option ℕ) → ((h : ℕ) → o ≡ Some h → h < g) → at_due one p o ≡ at_due one q o
    due_same p q g same None under = refl
    due_same p q g same (Some h) under = same h (under h refl)

    rule_same : (p q : ℕ → ℕ) (g : ℕ) → ((h : ℕ) → h < g → p h ≡ q h) → F (at_due one p) (m.lists g) ≡ F (at_due one q) (m.lists g)
    unfolding Local
    rule_same p q g same =
        local (at_due one p) (at_due one q) (m.lists g)
        (λ i a e. (due_same p q g same (left_due a) (λ h. left_under g i a h e), due_same p q g same (right_due a) (λ h. right_under g i a h e)))

    depth_enough : (d k g : ℕ) → g < d → g < k → to_depth one F m d g ≡ to_depth one F m k g
    depth_enough zero k g h j = absurd (omega arith)
    depth_enough (suc d) zero g h j = absurd (omega arith)
    depth_enough (suc d) (suc k) g h j = rule_same (to_depth one F m d) (to_depth one F m k) g (λ x x<g. depth_enough d k x (omega arith) (omega arith))

    pub goal_step : (g : ℕ) → of_goals one F m (Some g) ≡ F (of_goals one F m) (m.lists g)
    goal_step g = rule_same (to_depth one F m g) (λ x. to_depth one F m (suc x) x) g (λ x x<g. depth_enough g (suc x) x x<g (omega arith))

  pub count_goal : (g : ℕ) → count m (Some g) ≡ all_ways (count m) (m.lists g)
  unfolding count
  count_goal g = goal_step 1 all_ways all_ways_local g

  pub count_none : count m None ≡ 1
  unfolding count
  count_none = refl

  pub size_goal : (g : ℕ) → size m (Some g) ≡ longest (count m) (size m) (m.lists g)
  unfolding size
  size_goal g = goal_step 0 (longest (count m)) (longest_local (count m)) g

  pub size_none : size m None ≡ 0
  unfolding size
  size_none = refl
