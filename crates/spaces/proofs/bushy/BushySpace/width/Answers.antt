use Rattle.std.proofs.Common.{◌-◌, ◌^◌, ◌<◌, ◌≤◌, ap, ◌∙◌, arith}
use lib.Count.{ones}
use Rattle.spaces.specs.BushesLemmas.{pow_few, shift_is, two_up, width_many}
use Rattle.spaces.proofs.bushy.BushySpace.width.Goals as goal

inside : (c : goal.In_default) → c.args.goal < 2 ^ c.args.self.now.relations
inside c = omega (arith, c.goals.ensures, c.if-goal-goals.false)

few : (c : goal.In_default) → ones c.args.goal ≤ 10
few c = (pow_few c.args.self.now.relations c.args.goal c.args.self.now.few.1 (inside c)).1

pub overflow_sub-result : goal.overflow_sub-result
overflow_sub-result c =
    let small : ones c.args.goal ≤ 16 = omega (arith, few c) in
    let many : 4 ≤ 2 ^ ones c.args.goal = two_up (ones c.args.goal) (λ e. omega arith) (λ e. omega arith) in
    omega (arith, shift_is c.args.goal small)

pub returns-in_default : goal.returns-in_default
returns-in_default c =
    let small : ones c.args.goal ≤ 16 = omega (arith, few c) in
    ap (λ n. n - 2) (shift_is c.args.goal small) ∙ width_many c.args.self.now.relations c.args.self.now.join c.args.goal (inside c) (λ e. omega arith)
