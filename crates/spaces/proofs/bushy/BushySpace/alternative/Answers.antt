use Rattle.std.proofs.Common.{ℕ, ◌+◌, ◌-◌, ◌<◌, Some, ap, ◌∙◌, arith}
use Rattle.spaces.specs.Digits.{dep_le}
use Rattle.spaces.specs.BushesLemmas.{get_none, get_many, index_small}
use Rattle.spaces.proofs.bushy.BushySpace.alternative.Goals as goal

small : (c : goal.Else-goal-eq1) → c.args.index < 1022
small c =
    index_small c.args.self.now.relations c.args.self.now.join c.args.goal c.args.index c.args.self.now.few.1 (omega (arith, c.width.ensures, c.if-index-width.false)) c.if-goal-eq1.false

pub returns-then-index-width : goal.returns-then-index-width
returns-then-index-width c =
    get_none c.args.self.now.relations c.args.self.now.join c.args.goal c.args.index (omega (arith, c.width.ensures, c.if-index-width.true))

pub overflow_cast-index : goal.overflow_cast-index
overflow_cast-index c = omega (arith, small c)

pub overflow_add-index : goal.overflow_add-index
overflow_add-index c = omega (arith, small c)

pub overflow_sub-result : goal.overflow_sub-result
overflow_sub-result c = omega (arith, c.carried-left.ensures, dep_le 16 c.args.goal (c.args.index + 1))

pub returns : goal.returns
returns c =
    ap (λ (l : ℕ). Some (record { kind = c.args.self.now.join; tag = 0; left = l; right = c.args.goal - l })) c.carried-left.ensures
    ∙ get_many c.args.self.now.relations c.args.self.now.join c.args.goal c.args.index (omega (arith, c.width.ensures, c.if-index-width.false)) c.if-goal-eq1.false
