use Rattle.std.proofs.Common.{◌≡◌, Some, None, Err, vec_items, subst, ◌∙◌, arith}
use Rattle.std.proofs.lemmas.Grind.{common_steps}
use Rattle.std.proofs.lemmas.Result.{err_from_is_err_and}
use Rattle.texts.specs.declared.error.TextError.TheVariants.{NoNode}
use Rattle.texts.specs.Parts.{LabelAt}
use Rattle.texts.proofs.Readings.{bytes_follow, no_node, reading_end, reading_new, turn_missed, turn_read, turn_shorter}
use Rattle.texts.proofs.read.read_nodes.Goals as goal

pub loop-marks-init : goal.loop-marks-init
loop-marks-init c =
    record {
      text = c.new-cursor.ensures.text;
      read = rw c.new-cursor.ensures.at (reading_new c.args.text.now (vec_items c.new-marks.result) (vec_items c.new-nodes.result) c.new-marks.ensures.items c.new-nodes.ensures.items);
    }

pub returns-in_err-node : goal.returns-in_err-node
returns-in_err-node c =
    let cursor = c.loop-marks.cursor in
    let none : c.label.result ≡ None = grind (arith, common_steps) in
    let told : c.from_residual.result ≡ Err (NoNode cursor.at) = grind (arith, common_steps) in
    rw told
    (no_node c.args.text.now cursor.at _ _ c.loop-marks.invariant.read (subst (λ x. LabelAt x cursor.at None) c.loop-marks.invariant.text (rw none at c.label.ensures.label)))

pub returns-in_err-pass_marks : goal.returns-in_err-pass_marks
returns-in_err-pass_marks c =
    let some : c.label.result ≡ Some c.in_ok-node.node = grind (arith, common_steps) in
    let p = err_from_is_err_and c.from_residual-in_err-pass_marks.result c.from_residual-in_err-pass_marks.ensures.1 in
    rw (p.1, p.2)
    (turn_missed c.args.text.now _ _ _ _ _ _ c.loop-marks.invariant.read c.in_ok-node.node _ (rw some at c.label.ensures.label)
    c.loop-marks.invariant.text c.label.ensures.text c.arity.ensures c.in_err-pass_marks.field-0.0 c.in_err-pass_marks.ensures.marks)

pub loop-marks-smaller : goal.loop-marks-smaller
loop-marks-smaller c =
    let some : c.label.result ≡ Some c.in_ok-node.node = grind (arith, common_steps) in
    turn_shorter c.args.text.now _ _ _ _ _ _ c.loop-marks.invariant.read c.in_ok-node.node _ (rw some at c.label.ensures.label)
    c.loop-marks.invariant.text c.label.ensures.text c.arity.ensures _ _ _ c.in_ok-pass_marks.ensures.marks

pub loop-marks-preserved : goal.loop-marks-preserved
loop-marks-preserved c =
    let some : c.label.result ≡ Some c.in_ok-node.node = grind (arith, common_steps) in
    record {
      text = c.pass_marks.ensures.text ∙ c.label.ensures.text ∙ c.loop-marks.invariant.text;
      read = turn_read c.args.text.now _ _ _ _ _ _ c.loop-marks.invariant.read c.in_ok-node.node _ (rw some at c.label.ensures.label)
          c.loop-marks.invariant.text c.label.ensures.text c.arity.ensures _ _ _ _ (rw c.in-Node.is at c.in_ok-pass_marks.ensures.marks) c.in_ok-push.ensures.items;
    }

pub returns-then-cursor-text : goal.returns-then-cursor-text
returns-then-cursor-text c =
    let some : c.label.result ≡ Some c.in_ok-node.node = grind (arith, common_steps) in
    bytes_follow c.args.text.now _ _ _ (turn_read c.args.text.now _ _ _ _ _ _ c.loop-marks.invariant.read c.in_ok-node.node _ (rw some at c.label.ensures.label)
    c.loop-marks.invariant.text c.label.ensures.text c.arity.ensures _ _ _ _ (rw c.in-End.is at c.in_ok-pass_marks.ensures.marks) c.in_ok-push.ensures.items) c.if-cursor-text.true

pub returns : goal.returns
returns c =
    let some : c.label.result ≡ Some c.in_ok-node.node = grind (arith, common_steps) in
    reading_end c.args.text.now _ _ _ (turn_read c.args.text.now _ _ _ _ _ _ c.loop-marks.invariant.read c.in_ok-node.node _ (rw some at c.label.ensures.label)
    c.loop-marks.invariant.text c.label.ensures.text c.arity.ensures _ _ _ _ (rw c.in-End.is at c.in_ok-pass_marks.ensures.marks) c.in_ok-push.ensures.items) c.if-cursor-text.false
