use Rattle.std.proofs.Common.{◌≡◌, vec_items, vec_len}
use Rattle.texts.specs.Passing.{from_top}
use Rattle.texts.proofs.Passes.{Closing}
use Rattle.texts.proofs.punctuation.close_marks.Given as goal

abbrev pub invariant-loop-mark : goal.invariant-loop-mark
invariant-loop-mark l = record {
  text : l.cursor.text.now ≡ l.initial.cursor.text.now;
  passed : Closing (from_top (vec_items l.initial.marks)) (from_top (vec_items l.marks)) l.initial.cursor.text.now l.initial.cursor.at l.cursor.at;
}

abbrev pub decreases-loop-mark : goal.decreases-loop-mark
decreases-loop-mark l = vec_len l.marks
