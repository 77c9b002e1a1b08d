-- The refusals of calls on a space: their numbers, and which is the first that applies.
use Rattle.std.specs.Prelude.{ℕ, Bool, cond, List, [], ◌∷◌, length, Some, None, Ok, Err, Option, Result, ◌==◌, nat_lt}
use Rattle.spaces.specs.Spaces.{Meaning}
use Rattle.numbering.specs.declared.refusal.Refusal.{Refusal}
use Rattle.numbering.specs.declared.refusal.Refusal.TheVariants.{ListEnds, NoGoals, NoLiveAlternative, NoSuchPlan, NodesFollow, OtherGoal, PlanShort, PlansTooLarge, TalliesShort, TextShort, TooManyPlans, WorkShort}
use Rattle.numbering.specs.declared.tally.Tally.{Tally}
use Rattle.numbering.specs.Plans.{count, size}
use Rattle.numbering.specs.Tallies.{filled, most_nodes, over}

abbrev pub number : Refusal → ℕ
number NoGoals = 20
number TalliesShort = 21
number TooManyPlans = 22
number PlansTooLarge = 23
number WorkShort = 24
number PlanShort = 25
number NoSuchPlan = 40
number (OtherGoal p) = 41
number (NoLiveAlternative p) = 42
number (ListEnds p) = 43
number (NodesFollow p) = 44
number TextShort = 48

-- the place in a list that a refusal names
abbrev pub place : Refusal → Option ℕ
place NoGoals = None
place TalliesShort = None
place TooManyPlans = None
place PlansTooLarge = None
place WorkShort = None
place PlanShort = None
place NoSuchPlan = None
place TextShort = None
place (OtherGoal p) = Some p
place (NoLiveAlternative p) = Some p
place (ListEnds p) = Some p
place (NodesFollow p) = Some p

-- the first refusal of a table whose test applies
abbrev pub first_of : List (Bool × Refusal) → Option Refusal
first_of [] = None
first_of (x ∷ rest) = cond x.0 (Some x.1) (first_of rest)

-- what a call answers: the refusal, or what it has to say
abbrev pub answered : {T : Type 0} → Option Refusal → T → Result T Refusal
answered None x = Ok x
answered (Some e) x = Err e

-- N and Z: the count and the size of the root
abbrev pub plans : Meaning → ℕ
plans m = count m (Some m.root)

abbrev pub largest : Meaning → ℕ
largest m = size m (Some m.root)

-- what every call on a space checks first, where its tally buffer has `room` entries
abbrev pub count_checks : Meaning → ℕ → List (Bool × Refusal)
count_checks m room =
    ((m.goals == 0), NoGoals)
    ∷ ((nat_lt room m.goals, TalliesShort)
    ∷ ((over m m.goals, TooManyPlans)
    ∷ ((nat_lt most_nodes (largest m), PlansTooLarge) ∷ [])))

-- a tally buffer after such a call: the tallies stand in its first entries, unless there are no goals or it was too short
abbrev pub after_tally : Meaning → List Tally → List Tally
after_tally m ts = cond (nat_lt (length ts) m.goals) ts (filled m m.goals ts)
