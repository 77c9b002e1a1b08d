use Rattle.std.proofs.Common.{map, length}
use Rattle.spaces.specs.Orders.{Small, lifted}
use Rattle.spaces.proofs.Filling.{Changing}
use Rattle.spaces.proofs.ordered_goal.lift_all.Given as goal

abbrev pub invariant-loop-alternative : goal.invariant-loop-alternative
invariant-loop-alternative l = Changing Small (lifted l.asked) (map (lifted l.asked) l.initial.alternative-items) l.alternative-items (length l.initial.alternative-items) l.alternative-index
