use Rattle.std.proofs.Common.{◌≡◌, ◌+◌, ◌^◌, ◌<◌, length, decimal}
use Rattle.texts.specs.Layout.{laid}
use Rattle.texts.proofs.writer.Writer.decimal.Given as goal

abbrev pub invariant-loop-index : goal.invariant-loop-index
invariant-loop-index l = record {
  same_buffer : l.self.out.ghost_name ≡ l.initial.self.out.ghost_name;
  at : l.self.at ≡ l.initial.self.at;
  long : length l.self.out.now ≡ length l.initial.self.out.now;
  small : l.left < 2 ^ 64;
  left : l.index ≡ l.self.at + length (decimal l.left);
  same : laid l.self.at (decimal l.left) l.self.out.now ≡ laid l.self.at (decimal l.number) l.initial.self.out.now;
}
