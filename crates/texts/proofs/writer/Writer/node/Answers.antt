use Rattle.std.proofs.Common.{◌≡◌, ◌+◌, ◌-◌, set, sym, ap, ◌∙◌, arith}
use Rattle.spaces.specs.Kinds.{arity}
use Rattle.texts.proofs.Turns.{arity_most, leaf_turned, one_turned, own_at, two_turned}
use Rattle.texts.proofs.writer.Writer.node.Goals as goal

pub returns-then-arity-eq0-clause-turned : goal.returns-then-arity-eq0-clause-turned
returns-then-arity-eq0-clause-turned c =
    let before = c.args.self.now in
    let next = c.label.new.self.at in
    rw (c.close.ensures.bytes.at ∙ ap (λ k. next + k) (sym c.close.ensures.closed))
    (leaf_turned c.args.node before.at c.args.top c.args.end next c.close.result before.out.now c.label.new.self.out.now c.close.new.self.out.now
    (sym c.arity-arity.ensures ∙ c.if-arity-eq0.true) c.requires.room c.requires.within c.requires.whole
    c.label.ensures.laid c.label.ensures.at c.close.ensures.closed c.close.ensures.bytes.laid)

pub returns-then-arity-eq1-clause-turned : goal.returns-then-arity-eq1-clause-turned
returns-then-arity-eq1-clause-turned c =
    let before = c.args.self.now in
    let one : arity c.args.node.alternative.kind ≡ 1 = sym c.arity-arity.ensures ∙ c.if-arity-eq1.true in
    rw c.byte.ensures.at
    (one_turned c.args.node before.at c.args.top c.args.end c.label.new.self.at (c.args.top - 1) before.out.now c.label.new.self.out.now _
    one c.requires.room c.requires.within c.requires.whole
    c.label.ensures.laid c.label.ensures.at (omega (arith, own_at c.args.node 1 one)) (ap (λ o. set o (c.args.top - 1) 41) c.byte.ensures.laid))

pub returns-clause-turned : goal.returns-clause-turned
returns-clause-turned c =
    let before = c.args.self.now in
    let two : arity c.args.node.alternative.kind ≡ 2 = omega (arith, arity_most c.args.node.alternative.kind) in
    rw c.byte.ensures.at
    (two_turned c.args.node before.at c.args.top c.args.end c.label.new.self.at (c.args.top - 1) (c.args.top - 2) before.out.now c.label.new.self.out.now _
    two c.requires.room c.requires.within c.requires.whole
    c.label.ensures.laid c.label.ensures.at (omega (arith, own_at c.args.node 2 two)) (omega (arith, own_at c.args.node 2 two))
    (ap (λ o. set (set o (c.args.top - 1) 41) (c.args.top - 2) 44) c.byte.ensures.laid))
