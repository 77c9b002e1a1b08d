use Rattle.std.proofs.Common.{◌≡◌, ◌+◌, ◌*◌, ◌≤◌, drop}
use Rattle.texts.specs.Layout.{text_size}
use Rattle.texts.proofs.text.text_length.Given as goal

abbrev pub invariant-loop-node : goal.invariant-loop-node
invariant-loop-node l = (l.sum + text_size (drop l.node-index l.nodes) ≡ text_size l.nodes) × (l.sum ≤ 15 * l.node-index)
