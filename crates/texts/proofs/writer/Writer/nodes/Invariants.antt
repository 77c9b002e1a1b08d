use Rattle.std.proofs.Common.{◌≡◌, ◌+◌, ◌≤◌, drop, length}
use Rattle.std.specs.List.{between}
use Rattle.texts.specs.Layout.{ahead, laid, text_size}
use Rattle.texts.specs.Listed.{text, texts}
use Rattle.texts.proofs.writer.Writer.nodes.Given as goal

abbrev pub invariant-loop-node : goal.invariant-loop-node
invariant-loop-node l = record {
  same_buffer : l.self.out.ghost_name ≡ l.initial.self.out.ghost_name;
  long : length l.self.out.now ≡ length l.initial.self.out.now;
  same : laid l.self.at (ahead (between l.top l.end l.self.out.now) (texts (drop l.node-index l.nodes))) l.self.out.now ≡ laid l.initial.self.at (text l.nodes) l.initial.self.out.now;
  room : l.top ≡ l.self.at + text_size (drop l.node-index l.nodes);
  within : l.top ≤ l.end;
}
