-- The place that a number falls to, from the running sums.
use Rattle.std.proofs.Common.{◌≡◌, ℕ, zero, suc, ◌+◌, ◌-◌, ◌<◌, ◌≤◌, true, false, leb, List, [], ◌∷◌, map, length, get_or, take, Vec, vec_items, Some, Option, sym, ap, ◌∙◌, ⊎_elim, add-one, arith}
use Rattle.std.specs.List.{slice_get}
use Rattle.std.specs.declared.alloc.Global.{Global}
use Rattle.std.specs.List.Sorted.{IsNonDecreasing, IsPartitionPoint}
use Rattle.std.proofs.lemmas.List.{get_or-map, get_or_past, length-map, nil_from_length, take_all}
use Rattle.std.proofs.lemmas.List.FromFn.{get_or-map-range_with_len, length-map-range_with_len}
use Rattle.std.proofs.lemmas.List.Sorted.{IsNonDecreasingBy-from_all_adjacent}
use Rattle.std.proofs.lemmas.Option.{slice_get-get_or}
use Rattle.std.proofs.lemmas.Bool.{cases_lt, leb-false, leb-true}
use Rattle.spaces.specs.declared.space.Alternative.{Alternative}
use Rattle.spaces.specs.Spaces.{Lawful, Meaning}
use Rattle.numbering.specs.Plans.{all_ways, count}
use Rattle.numbering.specs.Standing.{Falls}
use Rattle.numbering.proofs.Counts.{count_goal}
use Rattle.numbering.proofs.Standings.{ways_more}
use Rattle.prepared.specs.Sums.{Sought, Summed, goal_sums, sum_before}

-- one alternative more takes no plans away
take_rises : (c : Option ℕ → ℕ) (xs : List Alternative) (k : ℕ) → all_ways c (take k xs) ≤ all_ways c (take (suc k) xs)
take_rises c [] zero = omega arith
take_rises c [] (suc k) = omega arith
take_rises c (x ∷ xs) zero = omega arith
take_rises c (x ∷ xs) (suc k) = omega (arith, take_rises c xs k)

-- The sums before place i are those that the number is not below, and the first is one of them.
module _ (sums : List ℕ) (number i : ℕ) (some : 0 < length sums) (least : get_or sums 0 0 ≤ number) (within : i ≤ length sums) (point : IsPartitionPoint (λ y. leb y number ≡ true) (λ y. leb y number ≡ false) sums i) where
  pub past_first : 1 ≤ i
  past_first = ⊎_elim (λ l. absurd (omega (arith, least, leb-false _ _ (point.1 0 0 (omega arith) some)))) (λ l. l) (cases_lt i 1)

  pub sought : Sought sums number (i - 1)
  sought = record {
    before = omega (arith, past_first, within);
    low = leb-true _ _ (point.0 (i - 1) 0 (omega arith) (omega (arith, past_first)));
    high = λ h. leb-false _ _ (point.1 (i - 1 + 1) 0 (omega (arith, past_first)) h);
  }

-- A goal with an alternative.
module _ (m : Meaning) (g : ℕ) (item : 0 < length (m.lists g)) where
  module _ (sums : List (Vec ℕ Global)) (s : Summed m (map vec_items sums)) where
    pub row_within : g < length sums
    row_within =
        ⊎_elim (λ l. l)
        (λ l. absurd (omega (arith, item, length-map-range_with_len (sum_before m g) 0 (length (m.lists g)), ap length (sym (get_or_past (map vec_items sums) g [] (omega (arith, length-map sums vec_items))) ∙ s g))))
        (cases_lt g (length sums))

    -- the list that is read at the goal has its sums
    pub row_is : (k : ℕ) (row : Vec ℕ Global) → k ≡ g → row ≡ get_or sums k row → vec_items row ≡ goal_sums m g
    row_is k row e is =
        ap vec_items is ∙ ap (λ j. vec_items (get_or sums j row)) e ∙ sym (get_or-map vec_items sums g row [] row_within) ∙ s g

-- A list that has the sums of a goal.
module _ (m : Meaning) (g : ℕ) (sums : List ℕ) (e : sums ≡ goal_sums m g) where
  pub long : length sums ≡ length (m.lists g)
  long = ap length e ∙ length-map-range_with_len (sum_before m g) 0 (length (m.lists g))

  pub sum_at : (k d : ℕ) → k < length (m.lists g) → get_or sums k d ≡ sum_before m g k
  sum_at k d l = ap (λ xs. get_or xs k d) e ∙ get_or-map-range_with_len (sum_before m g) 0 (length (m.lists g)) k k d l (omega arith)

  pub rises : IsNonDecreasing sums
  rises =
      IsNonDecreasingBy-from_all_adjacent (λ x. x) sums
      (λ k d l. omega (arith, long, sum_at k d (omega (arith, long)), sum_at (k + 1) d (omega (arith, long)), take_rises (count m) (m.lists g) k, ap (sum_before m g) (add-one k)))

module _ (m : Meaning) (law : Lawful m) (g number : ℕ) (h : number < count m (Some g)) where
  -- a goal that has a plan has an alternative
  pub some_item : 0 < length (m.lists g)
  some_item = ⊎_elim (λ l. l) (λ l. absurd (omega (arith, h, count_goal m law g, ap (all_ways (count m)) (nil_from_length (m.lists g) (omega arith))))) (cases_lt 0 (length (m.lists g)))

  -- A list that has the sums of the goal.
  module _ (sums : List ℕ) (e : sums ≡ goal_sums m g) where
    pub some : 0 < length sums
    some = omega (arith, long m g sums e, some_item)

    -- the first sum is 0
    pub least : get_or sums 0 0 ≤ number
    least = omega (arith, sum_at m g sums e 0 0 some_item)

    module _ (r : ℕ) (f : Sought sums number r) where
      pub under : r < length (m.lists g)
      under = omega (arith, f.before, long m g sums e)

      -- the number is below the sum behind the place
      high : number < sum_before m g (r + 1)
      high =
          ⊎_elim
          (λ (l : r + 1 < length (m.lists g)). omega (arith, sum_at m g sums e (r + 1) 0 l, f.high (omega (arith, long m g sums e))))
          (λ (l : length (m.lists g) ≤ r + 1). omega (arith, h, count_goal m law g, ap (all_ways (count m)) (take_all (r + 1) (m.lists g) l)))
          (cases_lt (r + 1) (length (m.lists g)))

      pub falls : (xs : List Alternative) (d : Alternative) → xs ≡ m.lists g → Falls m g number (get_or xs r d) (number - get_or sums r 0)
      falls xs d is =
          let found : slice_get (m.lists g) r ≡ Some (get_or xs r d) = slice_get-get_or (m.lists g) r d under ∙ ap (λ ys. Some (get_or ys r d)) (sym is) in
          record {
            index = r;
            found = found;
            within = omega (arith, high, ways_more (count m) (m.lists g) r _ found, sum_at m g sums e r 0 under, f.low);
            sum = omega (arith, sum_at m g sums e r 0 under, f.low);
          }
