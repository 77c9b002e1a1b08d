use Rattle.std.proofs.Common.{◌≡◌, ◌≤◌, ◌++◌, length, take, drop, vec_items}
use Rattle.texts.specs.Links.{linked, roots}
use Rattle.texts.specs.Passing.{from_top}
use Rattle.texts.proofs.link.link.Given as goal

abbrev pub invariant-loop-index : goal.invariant-loop-index
invariant-loop-index l = record {
  within : l.index ≤ length l.initial.nodes;
  due : from_top (vec_items l.goals) ≡ roots (drop l.index l.initial.nodes);
  done : l.nodes ≡ take l.index l.initial.nodes ++ linked (drop l.index l.initial.nodes);
}
