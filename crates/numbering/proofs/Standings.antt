-- Reading counts from tallies that stand.
use Rattle.std.proofs.Common.{◌≡◌, ℕ, zero, suc, ◌+◌, ◌*◌, ◌<◌, ◌≤◌, ltb, List, [], ◌∷◌, take, Some, None, Option, sym, ap, subst, ap₂, add-one, arith}
use Rattle.std.proofs.lemmas.Bool.{lt-ltb}
use Rattle.std.specs.Bool.{then_some}
use Rattle.std.specs.List.{slice_get}
use Rattle.spaces.specs.declared.space.Alternative.{Alternative}
use Rattle.spaces.specs.Spaces.{Lawful, Meaning}
use Rattle.spaces.specs.Places.{none_some, some_inj}
use Rattle.numbering.specs.declared.tally.Tally.{Tally}
use Rattle.numbering.specs.Plans.{all_ways, count, left_due, right_due, ways}
use Rattle.numbering.specs.Standing.{Before, Standing}
use Rattle.numbering.specs.Tallies.{Within, look, most_plans}
use Rattle.numbering.proofs.Counts.{count_goal, count_none}
use Rattle.numbering.proofs.Fills.{left_within, right_within}
use Rattle.numbering.proofs.Picks.{before_below}

-- one alternative more before a place
pub ways_more : (c : Option ℕ → ℕ) (xs : List Alternative) (i : ℕ) (a : Alternative) → slice_get xs i ≡ Some a → all_ways c (take (i + 1) xs) ≡ all_ways c (take i xs) + ways c a
ways_more c [] i a e = none_some e
ways_more c (x ∷ xs) zero a e = omega (arith, ap (ways c) (some_inj e))
ways_more c (x ∷ xs) (suc i) a e = rw (add-one (suc i)) (omega (arith, rw add-one at (ways_more c xs i a e)))

module _ (m : Meaning) (law : Lawful m) (ts : List Tally) (up : Standing m ts) where
  pub look_count : (o : Option ℕ) → Within m.goals o → (look ts o).count ≡ count m o
  look_count None h = sym (count_none m law)
  look_count (Some g) h = omega (arith, ap (λ (t : Tally). t.count) (up.right g h), up.few g h)

  module _ (g i : ℕ) (a : Alternative) (h : g < m.goals) (e : slice_get (m.lists g) i ≡ Some a) where
    pub look_left : (look ts (left_due a)).count ≡ count m (left_due a)
    look_left = look_count (left_due a) (left_within m law g i m.goals a e (omega arith))

    pub ways_look : ways (λ o. (look ts o).count) a ≡ ways (count m) a
    ways_look = ap₂ ◌*◌ look_left (look_count (right_due a) (right_within m law g i m.goals a e (omega arith)))

    pub ways_few : ways (count m) a ≤ most_plans
    ways_few = omega (arith, before_below (count m) (m.lists g) i a e, count_goal m law g, up.few g h)

    pub look_few : ways (λ o. (look ts o).count) a ≤ most_plans
    look_few = omega (arith, ways_look, ways_few)

-- what a scan for a's place answers where it stands at i, from the count of a's plans and the counts passed
before_at : (m : Meaning) (g i n b : ℕ) (a : Alternative) → slice_get (m.lists g) i ≡ Some a → n ≡ ways (count m) a → b ≡ all_ways (count m) (take i (m.lists g)) →
    Before m g a (then_some (ltb 0 n) b)
before_at m g i zero b a at h e = λ live. omega (arith, h, live.some)
before_at m g i (suc n) b a at h e = subst (λ t. Before m g a (then_some t b)) (sym (lt-ltb 0 (suc n) (omega arith))) (record { index = i; found = at; some = omega (arith, h) }, e)

pub before_told : (m : Meaning) (g i n b : ℕ) (a : Alternative) (r : Option ℕ) → slice_get (m.lists g) i ≡ Some a → n ≡ ways (count m) a → b ≡ all_ways (count m) (take i (m.lists g)) →
    r ≡ then_some (ltb 0 n) b → Before m g a r
before_told m g i n b a r at h e told = subst (Before m g a) (sym told) (before_at m g i n b a at h e)
