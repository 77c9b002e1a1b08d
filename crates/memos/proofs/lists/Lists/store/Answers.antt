use Rattle.std.proofs.Common.{◌∙◌, arith}
use Rattle.memos.proofs.Storing.{stored, stored_indexed}
use Rattle.memos.proofs.lists.Lists.store.Goals as goal

pub invariant_of-self-2 : goal.invariant_of-self-2
invariant_of-self-2 c =
    let was = c.args.self.now in
    let padded = rw c.from.ensures at c.in_ok-resize.ensures in
    record { indexed = stored_indexed c.args.entry.goal _ _ _ _ _ was.indexed (omega (arith, c.requires.last, was.starts.ok.0)) (c.len-end.ensures ∙ was.items.ok.0) padded.items (omega (arith, padded.len, c.resize.new.self.ok.0)) _ (omega (arith, c.push.ensures.lower_bound, was.items.ok.0, c.push.new.self.ok.0)) }

pub returns-clause-lists : goal.returns-clause-lists
returns-clause-lists c =
    let was = c.args.self.now in
    let padded = rw c.from.ensures at c.in_ok-resize.ensures in
    rw c.in_ok-push.ensures.items (stored c.args.entry.goal _ _ _ _ _ was.indexed (omega (arith, c.requires.last, was.starts.ok.0)) (c.len-end.ensures ∙ was.items.ok.0) padded.items (omega (arith, padded.len, c.resize.new.self.ok.0)) c.args.entry.alternative)
