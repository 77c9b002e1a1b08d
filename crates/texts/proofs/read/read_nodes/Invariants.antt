use Rattle.std.proofs.Common.{◌≡◌, ◌-◌, true, length, vec_items}
use Rattle.texts.specs.Passing.{from_top}
use Rattle.texts.proofs.Readings.{Reading}
use Rattle.texts.proofs.read.read_nodes.Given as goal

abbrev pub invariant-loop-marks : goal.invariant-loop-marks
invariant-loop-marks l = record {
  text : l.cursor.text.now ≡ l.text;
  read : Reading l.text l.cursor.at (from_top (vec_items l.marks)) true (vec_items l.nodes);
}

abbrev pub decreases-loop-marks : goal.decreases-loop-marks
decreases-loop-marks l = length l.text - l.cursor.at
