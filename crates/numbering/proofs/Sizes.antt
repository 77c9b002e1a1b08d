-- The size of a goal is the greatest length of its plans.
use Rattle.std.proofs.Common.{◌≡◌, ℕ, zero, suc, ◌+◌, ◌*◌, ◌<◌, ◌≤◌, List, [], ◌∷◌, length, Some, None, Option, sym, refl, ap, ◌∙◌, mul-zero, zero-mul, arith, length-append}
use native.Mathlib.Decide.{dec_le}
use Rattle.std.proofs.lemmas.Nat.{mul-lt}
use Rattle.spaces.specs.declared.space.Alternative.{Alternative}
use Rattle.spaces.specs.Spaces.{Meaning, Lawful}
use Rattle.std.specs.List.{slice_get}
use Rattle.numbering.specs.Plans.{left_due, right_due, ways, all_ways, when_live, longest, count, size, Tree, none, node, nodes}
use Rattle.spaces.specs.Places.{none_some, some_inj}
use Rattle.numbering.proofs.Counts.{count_goal, size_goal, size_none, left_under, right_under}
use Rattle.numbering.proofs.Trees.{number_below}

pub ways_left : (u v : ℕ) → 0 < u * v → 0 < u
ways_left zero v h = absurd (omega (arith, zero-mul v))
ways_left (suc u) v h = omega arith

pub ways_right : (u v : ℕ) → 0 < u * v → 0 < v
ways_right u zero h = absurd (omega (arith, mul-zero u))
ways_right u (suc v) h = omega arith

pub ways_both : (u v : ℕ) → 0 < u → 0 < v → 0 < u * v
ways_both u v h k = omega (arith, mul-lt 0 0 u v h k)

live_is : (w n : ℕ) → 0 < w → when_live w n ≡ n
live_is zero n h = absurd (omega arith)
live_is (suc w) n h = refl

-- what one alternative makes of its children's sizes
abbrev long : (Option ℕ → ℕ) → Alternative → ℕ
long s a = suc (s (left_due a) + s (right_due a))

module _ (c s : Option ℕ → ℕ) where
  longest_above : (xs : List Alternative) (i : ℕ) (a : Alternative) → slice_get xs i ≡ Some a → 0 < ways c a → long s a ≤ longest c s xs
  longest_above [] i a e w = none_some e
  longest_above (x ∷ xs) zero a e w =
      let x= : x ≡ a = some_inj e in
      let here : when_live (ways c x) (long s x) ≡ long s a = ap (λ y. when_live (ways c y) (long s y)) x= ∙ live_is (ways c a) (long s a) w in
      omega arith
  longest_above (x ∷ xs) (suc i) a e w = omega (arith, longest_above xs i a e w)

  record Best (xs : List Alternative) : Type 0 where
    index : ℕ
    alternative : Alternative
    found : slice_get xs index ≡ Some alternative
    some : 0 < ways c alternative
    most : long s alternative ≡ longest c s xs

  dead_or : (w n : ℕ) → w ≡ 0 → when_live w n ≡ 0
  dead_or zero n e = refl
  dead_or (suc w) n e = absurd (omega arith)

  pub no_ways : (xs : List Alternative) → all_ways c xs ≡ 0 → longest c s xs ≡ 0
  no_ways [] e = refl
  no_ways (x ∷ xs) e = omega (arith, dead_or (ways c x) (long s x) (omega arith), no_ways xs (omega arith))

  later : {x : Alternative} {xs : List Alternative} → Best xs → longest c s xs ≡ longest c s (x ∷ xs) → Best (x ∷ xs)
  later b e = record { index = suc b.index; alternative = b.alternative; found = b.found; some = b.some; most = b.most ∙ e }

  here : {x : Alternative} {xs : List Alternative} → 0 < ways c x → longest c s xs ≤ long s x → Best (x ∷ xs)
  here {x} {xs} w h = record { index = 0; alternative = x; found = refl; some = w; most = omega (arith, live_is (ways c x) (long s x) w) }

  best : (xs : List Alternative) → 0 < all_ways c xs → Best xs
  best [] h = absurd (omega arith)
  best (x ∷ xs) h = elim (dec_le 1 (ways c x)) [
    | no d ↦ later (best xs (omega arith)) (omega (arith, dead_or (ways c x) (long s x) (omega arith)))
    | yes w ↦ elim (dec_le (longest c s xs) (long s x)) [
      | yes k ↦ here w k
      | no k ↦ elim (dec_le 1 (all_ways c xs)) [
        | yes v ↦ later (best xs v) (omega (arith, live_is (ways c x) (long s x) w))
        | no v ↦ absurd (omega (arith, no_ways xs (omega arith)))
      ]
    ]
  ]

module _ (m : Meaning) (law : Lawful m) where
  pub tree_live : {o : Option ℕ} (t : Tree m o) → 0 < count m o
  tree_live t = omega (arith, number_below m law t)

  pub length_most : {o : Option ℕ} (t : Tree m o) → length (nodes t) ≤ size m o
  length_most none = omega arith
  length_most (node {g} i a e l r) =
      let w = ways_both (count m (left_due a)) (count m (right_due a)) (tree_live l) (tree_live r) in
      omega (arith, length-append (nodes l) (nodes r), length_most l, length_most r, longest_above (count m) (size m) (m.lists g) i a e w, size_goal m law g)

  reach : (d : ℕ) (o : Option ℕ) → ((g : ℕ) → o ≡ Some g → g < d) → 0 < count m o → (t : Tree m o) × (length (nodes t) ≡ size m o)
  reach zero None u h = (none, sym (size_none m law))
  reach zero (Some g) u h = absurd (omega (arith, u g refl))
  reach (suc d) None u h = (none, sym (size_none m law))
  reach (suc d) (Some g) u h =
      let b = best (count m) (size m) (m.lists g) (omega (arith, count_goal m law g)) in
      let a = b.alternative in
      let l = reach d (left_due a) (λ x e. omega (arith, left_under m law g b.index a x b.found e, u g refl)) (ways_left (count m (left_due a)) (count m (right_due a)) b.some) in
      let r = reach d (right_due a) (λ x e. omega (arith, right_under m law g b.index a x b.found e, u g refl)) (ways_right (count m (left_due a)) (count m (right_due a)) b.some) in
      (node b.index a b.found l.0 r.0, omega (arith, length-append (nodes l.0) (nodes r.0), l.1, r.1, b.most, size_goal m law g))

  pub reach_goal : (g : ℕ) → 0 < count m (Some g) → (t : Tree m (Some g)) × (length (nodes t) ≡ size m (Some g))
  reach_goal g h = reach (suc g) (Some g) (λ k e. omega (arith, some_inj e)) h

  -- the measure of a loop over a stack of goals: the sum of their sizes falls as a goal gives way to its children
  pub size_falls : (g i : ℕ) (a : Alternative) → slice_get (m.lists g) i ≡ Some a → 0 < ways (count m) a → size m (left_due a) + size m (right_due a) < size m (Some g)
  size_falls g i a e w = omega (arith, longest_above (count m) (size m) (m.lists g) i a e w, size_goal m law g)
