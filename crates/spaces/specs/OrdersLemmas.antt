-- The layer of orders: its lists read by places, and its laws.
use Rattle.std.specs.Prelude.{◌≡◌, ℕ, zero, suc, ◌+◌, ◌*◌, ◌/◌, ◌%◌, ◌<◌, ◌≤◌, Bool, true, false, List, [], ◌∷◌, map, length, Some, None, filter, Option, ◌==◌, ◌≢◌, nat_le, nat_lt, refl}
use Rattle.std.proofs.Common.{ap, subst, sym, ◌∙◌, ⊎_elim, suc-le-suc, zero-le, arith, lit<, lit≤, length-append}
use Rattle.std.proofs.lemmas.List.{length-map}
use Rattle.std.specs.List.{AllByRecursion, slice_get}
use Rattle.std.proofs.ByRecursion.{all_kept_by, All-map, All-push, All-weaker, kept_by_passes}
use Rattle.std.proofs.lemmas.Bool.{cases_lt, cond_both, cond-false, cond-true, eq-eqb, eqb-false, eqb-true, false≢true, le-ltb, leb-true, ne_eqb}
use Rattle.spaces.specs.declared.kind.Kind.{Kind}
use Rattle.spaces.specs.declared.kind.Kind.TheVariants.{Filter, HashJoin, IndexScan, MergeJoin, NestedLoops, Scan, Sort}
use Rattle.spaces.specs.declared.order.Order.{Order}
use Rattle.spaces.specs.declared.space.Alternative.{Alternative}
use Rattle.spaces.specs.Kinds.{arity}
use Rattle.spaces.specs.Orders.{KeepsOrders, Orderly, asks, is_sorted, lifted, order_goals, order_list, ordered, place, sort_of, sortable}
use Rattle.spaces.specs.Sorting.{output_sorted, wants_left, wants_right}
use Rattle.spaces.specs.Spaces.{Apart, Lawful, Meaning, Sound}
use Rattle.spaces.specs.Lists.{apart_kept, apart_map, apart_push, kept_shorter, nth_front, nth_last, nth_map_none, nth_map_some, nth_over}
use Rattle.spaces.specs.Places.{all_nth, none_past}

-- ---- goals

goals_few : (n : ℕ) → order_goals n ≤ 4096
goals_few n = cond_both (nat_le n 2048) (2 * n) 0 (λ x. x ≤ 4096) (λ e. omega (arith, leb-true n 2048 e)) (λ e. zero-le)

goals_twice : (n : ℕ) → 0 < order_goals n → order_goals n ≡ 2 * n
goals_twice n = cond_both (nat_le n 2048) (2 * n) 0 (λ x. 0 < x → x ≡ 2 * n) (λ e p. refl) (λ e p. absurd (omega arith))

pub root_small : (m : Meaning) → Lawful m → m.root < 4096
root_small m w = ⊎_elim (λ (p : 0 < m.goals). omega (arith, w.root_below p, w.few)) (λ (p : m.goals ≤ 0). omega (arith, w.root_none (omega arith))) (cases_lt 0 m.goals)

-- ---- children of a sound alternative

arity_le : (k : Kind) → arity k ≤ 2
arity_le Scan = lit≤ tt
arity_le IndexScan = lit≤ tt
arity_le HashJoin = lit≤ tt
arity_le MergeJoin = lit≤ tt
arity_le NestedLoops = lit≤ tt
arity_le Filter = lit≤ tt
arity_le Sort = lit≤ tt

left_small : (g l n : ℕ) → (1 ≤ n → l < g) → (n ≡ 0 → l ≡ 0) → l ≤ g
left_small g l zero f z = omega (arith, z refl)
left_small g l (suc n) f z = omega (arith, f (suc-le-suc zero-le))

right_small : (g r n : ℕ) → n ≤ 2 → (n ≡ 2 → r < g) → (n ≤ 1 → r ≡ 0) → r ≤ g
right_small g r n le f z =
    ⊎_elim (λ (a : n < 2). let q : r ≡ 0 = z (omega arith) in omega arith) (λ (b : 2 ≤ n). let q : r < g = f (omega arith) in omega arith) (cases_lt n 2)

pub children_small : (g : ℕ) (a : Alternative) → Sound g a → (a.left ≤ g) × (a.right ≤ g)
children_small g a s =
    (left_small g a.left (arity a.kind) s.left_below s.left_unused, right_small g a.right (arity a.kind) (arity_le a.kind) s.right_below s.right_unused)

abbrev Few : Alternative → Type 0
Few a = (a.left < 4096) × (a.right < 4096)

-- a goal with an alternative is below 4,096, and so are its children
pub all_few : (m : Meaning) → Lawful m → (g : ℕ) → AllByRecursion Few (m.lists g)
all_few m w g =
    ⊎_elim
    (λ (l : g < m.goals). All-weaker (Sound g) Few (λ a s. let small = children_small g a s in (omega (arith, small.0, w.few), omega (arith, small.1, w.few))) (m.lists g) (w.sound g))
    (λ (o : m.goals ≤ g). subst (AllByRecursion Few) (sym (w.outside g o)) tt)
    (cases_lt g m.goals)

pub children_few : (m : Meaning) → Lawful m → (g i : ℕ) (a : Alternative) (r : Option Alternative) → r ≡ slice_get (m.lists g) i → r ≡ Some a → (a.left < 4096) × (a.right < 4096)
children_few m w g i a r e f = all_nth Few (m.lists g) i a (all_few m w g) (sym e ∙ f)

pub kept_few : (m : Meaning) → Lawful m → (g i : ℕ) (a : Alternative) (r : Option Alternative) → r ≡ slice_get (filter sortable (m.lists g)) i → r ≡ Some a → (a.left < 4096) × (a.right < 4096)
kept_few m w g i a r e f =
    all_nth Few (filter sortable (m.lists g)) i a (all_kept_by sortable Few (m.lists g) (all_few m w g)) (sym e ∙ f)

-- ---- lists by places

module _ (g : ℕ) (xs : List Alternative) where
  pub any_some : (i : ℕ) (a : Alternative) → slice_get xs i ≡ Some a → Some (lifted false a) ≡ slice_get (order_list false g xs) i
  any_some i a e = sym (nth_map_some (lifted false) xs i a e)

  pub any_none : (i : ℕ) → slice_get xs i ≡ None → None ≡ slice_get (order_list false g xs) i
  any_none i e = sym (nth_map_none (lifted false) xs i e)

  pub sorted_length : length (filter sortable xs) + 1 ≡ length (order_list true g xs)
  sorted_length =
      let ys : List Alternative = map (lifted true) (filter sortable xs) in
      sym (length-append ys (sort_of g ∷ []) ∙ ap (λ n. n + 1) (length-map (filter sortable xs) (lifted true)))

  pub sorted_some : (i : ℕ) (a : Alternative) → slice_get (filter sortable xs) i ≡ Some a → Some (lifted true a) ≡ slice_get (order_list true g xs) i
  sorted_some i a e =
      let ys : List Alternative = map (lifted true) (filter sortable xs) in
      sym (nth_front ys (sort_of g ∷ []) i (lifted true a) (nth_map_some (lifted true) (filter sortable xs) i a e))

  pub sorted_last : (i : ℕ) → i ≡ length (filter sortable xs) → Some (sort_of g) ≡ slice_get (order_list true g xs) i
  sorted_last i e =
      let ys : List Alternative = map (lifted true) (filter sortable xs) in
      sym (ap (slice_get (order_list true g xs)) (e ∙ sym (length-map (filter sortable xs) (lifted true))) ∙ nth_last ys (sort_of g))

  pub sorted_none : (i : ℕ) → slice_get (filter sortable xs) i ≡ None → (i ≢ length (filter sortable xs)) → None ≡ slice_get (order_list true g xs) i
  sorted_none i e ne =
      let ys : List Alternative = map (lifted true) (filter sortable xs) in
      let past : length (filter sortable xs) ≤ i = none_past (filter sortable xs) i e in
      let same : length ys ≡ length (filter sortable xs) = length-map (filter sortable xs) (lifted true) in
      sym (nth_over ys (sort_of g) i (omega (arith, ne)))

-- ---- what lifting keeps

place_below : (b : Bool) (c g : ℕ) → c < g → place b c < 2 * g
place_below true c g l = omega arith
place_below false c g l = omega arith

place_inj : (b : Bool) (c d : ℕ) → place b c ≡ place b d → c ≡ d
place_inj true c d e = omega arith
place_inj false c d e = omega arith

-- a child that an operator has not is wanted in any order, and stays 0
left_unused : (asked : Bool) (k : Kind) (t c : ℕ) → arity k ≡ 0 → c ≡ 0 → place (wants_left k t asked) c ≡ 0
left_unused asked Scan t c a z = ap (place false) z
left_unused asked IndexScan t c a z = ap (place false) z
left_unused asked HashJoin t c a z = absurd (omega arith)
left_unused asked MergeJoin t c a z = absurd (omega arith)
left_unused asked NestedLoops t c a z = absurd (omega arith)
left_unused asked Filter t c a z = absurd (omega arith)
left_unused asked Sort t c a z = absurd (omega arith)

right_unused : (k : Kind) (t c : ℕ) → arity k ≤ 1 → c ≡ 0 → place (wants_right k t) c ≡ 0
right_unused Scan t c a z = ap (place false) z
right_unused IndexScan t c a z = ap (place false) z
right_unused HashJoin t c a z = absurd (omega arith)
right_unused MergeJoin t c a z = absurd (omega arith)
right_unused NestedLoops t c a z = absurd (omega arith)
right_unused Filter t c a z = ap (place false) z
right_unused Sort t c a z = ap (place false) z

lifted_sound : (asked : Bool) (g h : ℕ) (a : Alternative) → 2 * g ≤ h → Sound g a → Sound h (lifted asked a)
lifted_sound asked g h a up s = record {
  left_below = λ e. omega (arith, place_below (wants_left a.kind a.tag asked) a.left g (s.left_below e));
  left_unused = λ e. left_unused asked a.kind a.tag a.left e (s.left_unused e);
  right_below = λ e. omega (arith, place_below (wants_right a.kind a.tag) a.right g (s.right_below e));
  right_unused = λ e. right_unused a.kind a.tag a.right e (s.right_unused e);
  tag_fits = s.tag_fits;
}

-- lifting is one-to-one: kind and tag stay, so the children were placed alike
lifted_inj : (asked : Bool) (a b : Alternative) → lifted asked a ≡ lifted asked b → a ≡ b
lifted_inj asked a b e =
    let k : a.kind ≡ b.kind = ap (λ (x : Alternative). x.kind) e in
    let t : a.tag ≡ b.tag = ap (λ (x : Alternative). x.tag) e in
    let wl : wants_left b.kind b.tag asked ≡ wants_left a.kind a.tag asked = ap (λ k. wants_left k b.tag asked) (sym k) ∙ ap (λ t. wants_left a.kind t asked) (sym t) in
    let wr : wants_right b.kind b.tag ≡ wants_right a.kind a.tag = ap (λ k. wants_right k b.tag) (sym k) ∙ ap (λ t. wants_right a.kind t) (sym t) in
    let l : a.left ≡ b.left = place_inj (wants_left a.kind a.tag asked) a.left b.left (ap (λ (x : Alternative). x.left) e ∙ ap (λ w. place w b.left) wl) in
    let r : a.right ≡ b.right = place_inj (wants_right a.kind a.tag) a.right b.right (ap (λ (x : Alternative). x.right) e ∙ ap (λ w. place w b.right) wr) in
    λ i. record { kind = k i; tag = t i; left = l i; right = r i }

-- a sort below has a child below g, so its lifting is not the sort at the end
not_sort : (g : ℕ) (a : Alternative) → Sound g a → lifted true a ≢ sort_of g
not_sort g a s e =
    let one : arity a.kind ≡ 1 = ap (λ (x : Alternative). arity x.kind) e in
    let l : place (wants_left a.kind a.tag true) a.left ≡ 2 * g = ap (λ (x : Alternative). x.left) e in
    let up : 1 ≤ arity a.kind = omega arith in
    let low : place (wants_left a.kind a.tag true) a.left < 2 * g = place_below (wants_left a.kind a.tag true) a.left g (s.left_below up) in
    omega arith

sort_sound : (g h : ℕ) → 2 * g < h → Sound h (sort_of g)
sort_sound g h lt = record { left_below = λ _. lt; left_unused = λ e. absurd (omega arith); right_below = λ e. absurd (omega arith); right_unused = λ _. refl; tag_fits = lit< tt }

-- ---- the laws

-- what holds of a list of the layer: of nothing, of an odd and of an even goal
by_goal : (m : Meaning) (wish : Order) (P : List Alternative → Type 0) (h : ℕ) → P [] → (h % 2 ≡ 1 → P (order_list true (h / 2) (m.lists (h / 2)))) → ((h % 2 ≢ 1) → P (order_list false (h / 2) (m.lists (h / 2)))) → P ((ordered m wish).lists h)
by_goal m wish P h none odd even =
    let at : Bool → List Alternative = λ b. order_list b (h / 2) (m.lists (h / 2)) in
    let here : (b : Bool) → (h % 2 == 1) ≡ b → P (at b) = λ b. elim b as (λ b. (h % 2 == 1) ≡ b → P (at b)) [ true ↦ (λ e. odd (eqb-true (h % 2) 1 e)) | false ↦ (λ e. even (eqb-false (h % 2) 1 e)) ] in
    cond_both (nat_lt h (order_goals m.goals)) (at (h % 2 == 1)) [] P (λ _. here (h % 2 == 1) refl) (λ _. none)

-- the list xs of g, lifted for the goal h: the laws of one list
module _ (g h : ℕ) (xs : List Alternative) (sound : AllByRecursion (Sound g) xs) where
  all_lifted : (asked : Bool) → 2 * g ≤ h → AllByRecursion (λ a. Sound h (lifted asked a)) xs
  all_lifted asked up = All-weaker (Sound g) (λ a. Sound h (lifted asked a)) (λ a. lifted_sound asked g h a up) xs sound

  any_sound : 2 * g ≤ h → AllByRecursion (Sound h) (order_list false g xs)
  any_sound up = All-map (Sound h) (lifted false) xs (all_lifted false up)

  sorted_sound : 2 * g < h → AllByRecursion (Sound h) (order_list true g xs)
  sorted_sound up =
      All-push (Sound h) (map (lifted true) (filter sortable xs)) (sort_of g)
      (All-map (Sound h) (lifted true) (filter sortable xs) (all_kept_by sortable (λ a. Sound h (lifted true a)) xs (all_lifted true (omega arith))))
      (sort_sound g h up)

  sorted_apart : Apart xs → Apart (order_list true g xs)
  sorted_apart apart =
      apart_push (map (lifted true) (filter sortable xs)) (sort_of g)
      (apart_map (lifted true) (lifted_inj true) (filter sortable xs) (apart_kept sortable xs apart))
      (All-map (λ a. a ≢ sort_of g) (lifted true) (filter sortable xs)
      (all_kept_by sortable (λ a. lifted true a ≢ sort_of g) xs
      (All-weaker (Sound g) (λ a. lifted true a ≢ sort_of g) (not_sort g) xs sound)))

sorted_short : (g : ℕ) (xs : List Alternative) → length (order_list true g xs) ≤ length xs + 1
sorted_short g xs =
    omega (arith, sorted_length g xs, kept_shorter sortable xs)

pub ordered_lawful : (m : Meaning) (wish : Order) → Lawful m → Lawful (ordered m wish)
ordered_lawful m wish w = record {
  few = goals_few m.goals;
  root_below = λ p.
      let twice : order_goals m.goals ≡ 2 * m.goals = goals_twice m.goals p in
      let low : m.root < m.goals = w.root_below (omega arith) in
      cond_both (order_goals m.goals == 0) 0 (place (asks wish) m.root) (λ x. x < order_goals m.goals) (λ _. p) (λ _. omega (arith, place_below (asks wish) m.root m.goals low));
  root_none = λ e. cond-true (order_goals m.goals == 0) 0 (place (asks wish) m.root) (eq-eqb (order_goals m.goals) 0 e);
  outside = λ h out. cond-false (nat_lt h (order_goals m.goals)) _ [] (le-ltb h (order_goals m.goals) out);
  narrow = λ h. by_goal m wish (λ ys. length ys ≤ 4096 + h) h zero-le
      (λ e. omega (arith, sorted_short (h / 2) (m.lists (h / 2)), w.narrow (h / 2)))
      (λ e. omega (arith, length-map (m.lists (h / 2)) (lifted false), w.narrow (h / 2)));
  sound = λ h. by_goal m wish (AllByRecursion (Sound h)) h tt
      (λ e. sorted_sound (h / 2) h (m.lists (h / 2)) (w.sound (h / 2)) (omega arith))
      (λ e. any_sound (h / 2) h (m.lists (h / 2)) (w.sound (h / 2)) (omega arith));
  distinct = λ h. by_goal m wish Apart h tt
      (λ e. sorted_apart (h / 2) h (m.lists (h / 2)) (w.sound (h / 2)) (w.distinct (h / 2)))
      (λ e. apart_map (lifted false) (lifted_inj false) (m.lists (h / 2)) (w.distinct (h / 2)));
}

-- ---- the promise of orders

place_sorted : (b : Bool) (c : ℕ) → is_sorted (place b c) ≡ b
place_sorted true c = eq-eqb ((2 * c + 1) % 2) 1 (omega arith)
place_sorted false c = ne_eqb (2 * c % 2) 1 (λ e. omega arith)

-- an output that is sorted where the left child's is, is so where the left child is as wanted of it
wanted_suffices : (k : Kind) (t : ℕ) → output_sorted k t true ≡ true → output_sorted k t (wants_left k t true) ≡ true
wanted_suffices Scan t e = e
wanted_suffices IndexScan t e = refl
wanted_suffices HashJoin t e = e
wanted_suffices MergeJoin t e = refl
wanted_suffices NestedLoops t e = refl
wanted_suffices Filter t e = refl
wanted_suffices Sort t e = refl

lifted_orderly : (h : ℕ) (asked : Bool) → is_sorted h ≡ asked → (a : Alternative) → (asked ≡ true → sortable a ≡ true) → Orderly h (lifted asked a)
lifted_orderly h asked here a passes =
    let left : is_sorted (place (wants_left a.kind a.tag asked) a.left) ≡ wants_left a.kind a.tag asked = place_sorted (wants_left a.kind a.tag asked) a.left in
    record {
      gives = λ odd.
          let yes : asked ≡ true = sym here ∙ odd in
          ap (output_sorted a.kind a.tag) (left ∙ ap (wants_left a.kind a.tag) yes) ∙ wanted_suffices a.kind a.tag (passes yes);
      left_met = λ w. left ∙ ap (wants_left a.kind a.tag) (sym here) ∙ w;
      right_met = λ w. place_sorted (wants_right a.kind a.tag) a.right ∙ w;
    }

sort_orderly : (h g : ℕ) → Orderly h (sort_of g)
sort_orderly h g = record { gives = λ _. refl; left_met = λ w. absurd (false≢true w); right_met = λ w. absurd (false≢true w) }

all_true : {X : Type 0} (P : X → Type 0) → ((x : X) → P x) → (xs : List X) → AllByRecursion P xs
all_true P f [] = tt
all_true P f (x ∷ xs) = (f x, all_true P f xs)

pub keeps_orders : (m : Meaning) (wish : Order) → KeepsOrders (ordered m wish)
keeps_orders m wish h = by_goal m wish (AllByRecursion (Orderly h)) h tt
    (λ e.
    let ys : List Alternative = filter sortable (m.lists (h / 2)) in
    All-push (Orderly h) (map (lifted true) ys) (sort_of (h / 2))
    (All-map (Orderly h) (lifted true) ys
    (All-weaker (λ a. sortable a ≡ true) (λ a. Orderly h (lifted true a)) (λ a s. lifted_orderly h true (eq-eqb (h % 2) 1 e) a (λ _. s)) ys (kept_by_passes sortable (m.lists (h / 2)))))
    (sort_orderly h (h / 2)))
    (λ e. All-map (Orderly h) (lifted false) (m.lists (h / 2))
    (all_true (λ a. Orderly h (lifted false a)) (λ a. lifted_orderly h false (ne_eqb (h % 2) 1 e) a (λ f. absurd (false≢true f))) (m.lists (h / 2))))
