-- Turns of a loop over a goal's alternatives: those that were passed, and those ahead, are the goal's list.
use Rattle.std.proofs.Common.{◌≡◌, ℕ, ◌+◌, ◌<◌, ◌≤◌, List, [], ◌∷◌, ◌++◌, length, take, Some, Option, sym, ap, ◌∙◌, arith}
use Rattle.std.proofs.Math.Seq.{take-append_seam}
use Rattle.std.specs.List.{AllByRecursion, slice_get}
use Rattle.spaces.specs.declared.space.Alternative.{Alternative}
use Rattle.spaces.specs.Places.{turn_at}
use Rattle.spaces.specs.Spaces.{Lawful, Meaning}
use Rattle.numbering.specs.declared.tally.Tally.{Tally}
use Rattle.numbering.specs.Plans.{all_ways, count, ways}
use Rattle.numbering.specs.Standing.{Standing}
use Rattle.numbering.specs.Tallies.{look, most_plans}
use Rattle.numbering.proofs.Counts.{count_goal}
use Rattle.numbering.proofs.Picks.{before_below}
use Rattle.numbering.proofs.Standings.{look_few, ways_look}

-- one alternative more
ways_push : (c : Option ℕ → ℕ) (xs : List Alternative) (a : Alternative) → all_ways c (xs ++ (a ∷ [])) ≡ all_ways c xs + ways c a
ways_push c [] a = omega arith
ways_push c (x ∷ xs) a = omega (arith, ways_push c xs a)

pub all_push : {X : Type 0} (P : X → Type 0) (xs : List X) (x : X) → AllByRecursion P xs → P x → AllByRecursion P (xs ++ (x ∷ []))
all_push P [] x all h = (h, tt)
all_push P (y ∷ xs) x all h = (all.0, all_push P xs x all.1 h)

passed_is : {X : Type 0} (xs passed before : List X) → passed ++ before ≡ xs → take (length passed) xs ≡ passed
passed_is xs passed before whole = ap (take (length passed)) (sym whole) ∙ take-append_seam passed before

-- ---- tallies that stand in ts, read in the turn for the alternative a of goal g, behind those that were passed

pub record Turn (m : Meaning) (ts : List Tally) (g : ℕ) (passed : List Alternative) (a : Alternative) : Type 0 where
  pub found : slice_get (m.lists g) (length passed) ≡ Some a
  pub few : ways (λ o. (look ts o).count) a ≤ most_plans
  pub read : ways (λ o. (look ts o).count) a ≡ ways (count m) a
  pub before : all_ways (count m) (take (length passed) (m.lists g)) ≡ all_ways (count m) passed
  pub more : all_ways (count m) (passed ++ (a ∷ [])) ≡ all_ways (count m) passed + ways (count m) a
  pub below : all_ways (count m) passed + ways (count m) a ≤ most_plans

pub turn : (m : Meaning) (law : Lawful m) (ts : List Tally) (g : ℕ) (passed before ahead : List Alternative) (a : Alternative) → Standing m ts → g < m.goals →
    passed ++ before ≡ m.lists g → before ≡ a ∷ ahead → Turn m ts g passed a
turn m law ts g passed before ahead a up h whole next =
    let at = turn_at (m.lists g) passed before ahead a whole next in
    let n = length passed in
    let front = ap (all_ways (count m)) (passed_is (m.lists g) passed before whole) in
    record {
      found = at;
      few = look_few m law ts up g n a h at;
      read = ways_look m law ts up g n a h at;
      before = front;
      more = ways_push (count m) passed a;
      below = omega (arith, front, before_below (count m) (m.lists g) n a at, count_goal m law g, up.few g h);
    }
