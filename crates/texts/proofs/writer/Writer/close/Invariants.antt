use Rattle.std.proofs.Common.{◌≡◌, ◌+◌, length}
use Rattle.std.specs.List.{between}
use Rattle.texts.specs.Layout.{laid, closing}
use Rattle.texts.proofs.writer.Writer.close.Given as goal

abbrev pub invariant-loop-moved : goal.invariant-loop-moved
invariant-loop-moved l = record {
  same_buffer : l.self.out.ghost_name ≡ l.initial.self.out.ghost_name;
  long : length l.self.out.now ≡ length l.initial.self.out.now;
  at : l.self.at ≡ l.initial.self.at + l.moved;
  closed : l.moved + length (closing (between (l.top + l.moved) l.end l.self.out.now)) ≡ length (closing (between l.top l.end l.initial.self.out.now));
  same : laid l.self.at (closing (between (l.top + l.moved) l.end l.self.out.now)) l.self.out.now ≡ laid l.initial.self.at (closing (between l.top l.end l.initial.self.out.now)) l.initial.self.out.now;
}
