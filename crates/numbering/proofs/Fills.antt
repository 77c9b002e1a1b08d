-- A tally buffer as it is filled, goal after goal.
use Rattle.std.proofs.Common.{◌≡◌, ℕ, zero, suc, ◌+◌, ◌<◌, ◌≤◌, Bool, false, ◌||◌, ltb, List, [], ◌∷◌, ◌++◌, map, length, get_or, drop, set, Some, None, Option, sym, refl, ap, ap₂, ◌∙◌, ⊎_elim, append_assoc, add-one, arith}
use Rattle.std.proofs.lemmas.List.FromFn.{get_or-map-range_with_len, length-map-range_with_len, map-range_with_len_more}
use Rattle.std.proofs.lemmas.List.Folds.{list_any-append}
use Rattle.std.proofs.lemmas.List.{drop_more, get_or_append_left, set_at}
use Rattle.std.proofs.Math.Bool.{or-false}
use Rattle.std.proofs.lemmas.Bool.{cases_lt, ltb-false, or_parts}
use Rattle.std.proofs.lemmas.Bool.Decides.{nat_tests}
use Rattle.std.specs.List.{list_any, range_with_len, slice_get}
use Rattle.spaces.specs.declared.space.Alternative.{Alternative}
use Rattle.spaces.specs.Spaces.{Lawful, Meaning}
use Rattle.numbering.specs.declared.tally.Tally.{Tally}
use Rattle.numbering.specs.Plans.{count, left_due, right_due}
use Rattle.numbering.specs.Tallies.{Within, cut, exact, filled, look, made, many, most_plans, of_list, over, tally}
use Rattle.numbering.proofs.Counts.{count_goal, count_none, left_under, right_under, size_goal, size_none}
use Rattle.numbering.proofs.Cuts.{list_agree, list_cut, made_is}

pub length_front : (m : Meaning) (n : ℕ) → length (map (tally m) (range_with_len 0 n)) ≡ n
length_front m n = length-map-range_with_len (tally m) 0 n

pub look_filled : (m : Meaning) (n : ℕ) (ts : List Tally) (g : ℕ) → g < n → look (filled m n ts) (Some g) ≡ tally m g
look_filled m n ts g h =
    let within : g < length (map (tally m) (range_with_len 0 n)) = omega (arith, length_front m n) in
    get_or_append_left (map (tally m) (range_with_len 0 n)) (drop n ts) (made 0 0) g within ∙ get_or-map-range_with_len (tally m) 0 n g g (made 0 0) h (omega arith)

filled_more : (m : Meaning) (n : ℕ) (ts : List Tally) → n < length ts → set (filled m n ts) n (tally m n) ≡ filled m (n + 1) ts
filled_more m n ts h =
    let front = map (tally m) (range_with_len 0 n) in
    ap (λ r. set (front ++ r) n (tally m n)) (drop_more ts n (made 0 0) h) ∙
    set_at front (get_or ts n (made 0 0)) (drop (n + 1) ts) (tally m n) n (length_front m n) ∙
    sym (append_assoc front (tally m n ∷ []) (drop (n + 1) ts)) ∙
    sym (ap (λ r. r ++ drop (n + 1) ts) (map-range_with_len_more (tally m) 0 n n (omega arith)))

cut_many : (m : Meaning) (n : ℕ) → ltb most_plans (tally m n).count ≡ ltb most_plans (count m (Some n))
cut_many m n = grind (arith, nat_tests)

over_more : (m : Meaning) (n : ℕ) → (over m n || ltb most_plans (tally m n).count) ≡ over m (n + 1)
over_more m n = ap (λ b. over m n || b) (cut_many m n) ∙ sym (ap (over m) (add-one n))

pub over_any : (m : Meaning) (n : ℕ) → list_any many (map (tally m) (range_with_len 0 n)) ≡ over m n
over_any m zero = refl
over_any m (suc n) =
    ap (λ k. list_any many (map (tally m) (range_with_len 0 k))) (sym (add-one n))
    ∙ ap (list_any many) (map-range_with_len_more (tally m) 0 n n (omega arith))
    ∙ list_any-append many (map (tally m) (range_with_len 0 n)) (tally m n ∷ [])
    ∙ ap₂ ◌||◌ (over_any m n) (or-false (many (tally m n)) ∙ cut_many m n)

-- where no goal below n has too many plans, its count is not cut off
pub count_most : (m : Meaning) (n g : ℕ) → over m n ≡ false → g < n → count m (Some g) ≤ most_plans
count_most m zero g e h = absurd (omega arith)
count_most m (suc n) g e h =
    let parts = or_parts (over m n) (ltb most_plans (count m (Some n))) e in
    ⊎_elim (λ l. count_most m n g parts.0 l)
    (λ l. let s : g ≡ n = omega arith in
    omega (arith, ap (λ k. count m (Some k)) s, ltb-false most_plans (count m (Some n)) parts.1))
    (cases_lt g n)

pub within_by : (o : Option ℕ) (n : ℕ) → ((g : ℕ) → o ≡ Some g → g < n) → Within n o
within_by None n under = tt
within_by (Some g) n under = under g refl

module _ (m : Meaning) (law : Lawful m) where
  -- what is due at an alternative of goal n is below n
  pub left_within : (n i k : ℕ) (a : Alternative) → slice_get (m.lists n) i ≡ Some a → n ≤ k → Within k (left_due a)
  left_within n i k a e h = within_by (left_due a) k (λ g d. omega (arith, left_under m law n i a g e d))

  pub right_within : (n i k : ℕ) (a : Alternative) → slice_get (m.lists n) i ≡ Some a → n ≤ k → Within k (right_due a)
  right_within n i k a e h = within_by (right_due a) k (λ g d. omega (arith, right_under m law n i a g e d))

  look_due : (n : ℕ) (ts : List Tally) (o : Option ℕ) → Within n o → look (filled m n ts) o ≡ cut (exact m o)
  look_due n ts None h = made_is (omega (arith, count_none m law)) (omega (arith, size_none m law))
  look_due n ts (Some g) h = look_filled m n ts g h

  goal_is : (n : ℕ) (ts : List Tally) → cut (of_list (look (filled m n ts)) (m.lists n)) ≡ tally m n
  goal_is n ts =
      ap cut (list_agree (look (filled m n ts)) (λ o. cut (exact m o)) (m.lists n)
      (λ i a e. (look_due n ts (left_due a) (left_within n i n a e (omega arith)), look_due n ts (right_due a) (right_within n i n a e (omega arith))))) ∙
      list_cut (exact m) (m.lists n) ∙
      ap cut (sym (made_is (count_goal m law n) (size_goal m law n)))

  -- one goal more is written, at its place k: whether it has too many plans is told by its tally, and with it whether one of the goals up to it has
  pub fill_step : (n k : ℕ) (start ts : List Tally) (t : Tally) (b : Bool) → n < length start → k ≡ n → ts ≡ filled m n start → b ≡ over m n →
      t ≡ cut (of_list (look ts) (m.lists n)) →
      ((b || ltb most_plans t.count) ≡ over m (n + 1)) × (set ts k t ≡ filled m (n + 1) start)
  fill_step n k start ts t b h place e o r =
      let is : t ≡ tally m n = r ∙ ap (λ us. cut (of_list (look us) (m.lists n))) e ∙ goal_is n start in (
        ap (λ (u : Tally). b || ltb most_plans u.count) is ∙ ap (λ v. v || ltb most_plans (tally m n).count) o ∙ over_more m n,
        ap₂ (λ j u. set ts j u) place is ∙ ap (λ us. set us n (tally m n)) e ∙ filled_more m n start h,
      )
