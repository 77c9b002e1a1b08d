use Rattle.std.proofs.Common.{◌≡◌, ◌+◌, refl, ◌∙◌, arith}
use Rattle.texts.proofs.Marks.{close_comma, close_more}
use Rattle.texts.proofs.writer.Writer.close.Goals as goal

pub loop-moved-preserved : goal.loop-moved-preserved
loop-moved-preserved c =
    let now = c.loop-moved.self in
    let before = c.loop-moved.invariant in
    let moved = close_more now.at (c.args.top + c.loop-moved.moved) c.args.end _ now.out.now c.byte.new.self.out.now (omega arith) (omega arith) refl c.byte.ensures.laid (omega arith) c.if-mark-eq44.false in
    let past : c.args.top + (c.loop-moved.moved + 1) ≡ c.args.top + c.loop-moved.moved + 1 = omega arith in
    record {
      same_buffer = c.byte.ensures.same_buffer ∙ before.same_buffer;
      long = c.byte.ensures.long ∙ before.long;
      at = omega arith;
      closed = rw past (omega (arith, moved.0));
      same = rw (past, c.byte.ensures.at) (moved.1 ∙ before.same);
    }

pub returns-then-mark-eq44-clause-closed : goal.returns-then-mark-eq44-clause-closed
returns-then-mark-eq44-clause-closed c =
    let now = c.loop-moved.self in
    let moved = close_comma now.at (c.args.top + c.loop-moved.moved) c.args.end _ now.out.now c.byte.new.self.out.now (omega arith) (omega arith) refl c.byte.ensures.laid c.if-mark-eq44.true in
    omega (arith, moved.0)

pub returns-then-mark-eq44-clause-bytes : goal.returns-then-mark-eq44-clause-bytes
returns-then-mark-eq44-clause-bytes c =
    let now = c.loop-moved.self in
    let before = c.loop-moved.invariant in
    let moved = close_comma now.at (c.args.top + c.loop-moved.moved) c.args.end _ now.out.now c.byte.new.self.out.now (omega arith) (omega arith) refl c.byte.ensures.laid c.if-mark-eq44.true in
    record {
      same_buffer = c.byte.ensures.same_buffer ∙ before.same_buffer;
      at = omega (arith, moved.0);
      long = c.byte.ensures.long ∙ before.long;
      laid = moved.1 ∙ before.same;
    }
