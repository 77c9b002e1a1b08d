use Rattle.std.proofs.Common.{◌≡◌, ◌-◌, length, vec_len}
use Rattle.memos.specs.Slices.{sliced}
use Rattle.memos.proofs.Looping.{Loop}
use Rattle.memos.proofs.load.read_records.Given as goal

abbrev pub invariant-loop-cursor : goal.invariant-loop-cursor
invariant-loop-cursor l = record {
  file : l.cursor.file.now ≡ l.initial.cursor.file.now;
  reading : Loop l.initial.cursor.file.now l.goals l.initial.cursor.at (sliced l.lists.items.items l.lists.starts.items) (vec_len l.lists.starts) (vec_len l.lists.items) l.cursor.at;
}

abbrev pub decreases-loop-cursor : goal.decreases-loop-cursor
decreases-loop-cursor l = length l.cursor.file.now - l.cursor.at
