use Rattle.std.proofs.Common.{◌+◌, ◌∙◌, arith}
use Rattle.texts.proofs.Turns.{text_ends, text_more}
use Rattle.texts.proofs.writer.Writer.nodes.Goals as goal

pub loop-node-preserved : goal.loop-node-preserved
loop-node-preserved c =
    let now = c.loop-node.invariant in
    let more = text_more c.args.nodes.now c.loop-node.node-index c.loop-node.self.at c.loop-node.top (c.args.self.now.at + c.args.len) c.node-top.new.self.at c.node-top.result
    c.loop-node.self.out.now c.node-top.new.self.out.now _ c.loop-node-test.true now.room now.same c.node-top.ensures.turned in
    record { same_buffer = c.node-top.ensures.same_buffer ∙ now.same_buffer; long = c.node-top.ensures.long ∙ now.long; same = more.0; room = more.1; within = more.2 }

pub returns : goal.returns
returns c =
    let now = c.loop-node.invariant in
    record {
      same_buffer = now.same_buffer;
      at = omega arith;
      long = now.long;
      laid = text_ends c.args.nodes.now c.loop-node.node-index c.loop-node.self.at c.loop-node.top (c.args.self.now.at + c.args.len) c.loop-node.self.out.now _ (omega arith)
          now.room now.within (omega (arith, now.long)) now.same;
    }
