use Rattle.std.proofs.Common.{◌≡◌, ◌<◌, ap, ◌∙◌, arith}
use Rattle.spaces.specs.Bushes.{deposit}
use Rattle.spaces.specs.Digits.{shift_fits, low_pos, low_within, carry_one, carry_none, carry_end, dep_le}
use Rattle.spaces.proofs.bushy.carried.Goals as goal
use Rattle.spaces.proofs.bushy.carried.Goals.{then-ahead-eq1, else-ahead-eq1}

pub overflow_shl-low : goal.overflow_shl-low
overflow_shl-low c =
    let fits : c.loop-rest.rest < 65536 = omega arith in
    shift_fits c.loop-rest.rest c.loop-rest-test.true fits

pub overflow_sub-rest : goal.overflow_sub-rest
overflow_sub-rest c =
    let fits : c.loop-rest.rest < 65536 = omega arith in
    low_within c.loop-rest.rest c.loop-rest-test.true fits

pub overflow_add-left : goal.overflow_add-left
overflow_add-left c =
    let fits : c.loop-rest.rest < 65536 = omega arith in
    omega (arith, carry_one c.loop-rest.rest c.loop-rest.ahead c.loop-rest-test.true fits c.if-ahead-eq1.true, dep_le 16 c.args.mask c.args.bits)

pub loop-rest-smaller : goal.loop-rest-smaller
loop-rest-smaller c =
    let fits : c.loop-rest.rest < 65536 = omega arith in
    omega (arith, low_pos c.loop-rest.rest c.loop-rest-test.true fits)

pub loop-rest-preserved : goal.loop-rest-preserved
loop-rest-preserved c =
    let fits : c.loop-rest.rest < 65536 = omega arith in
    elim c.if-ahead-eq1.branch [
      | then-ahead-eq1 w ↦ (omega arith, omega (arith, w.left-is, carry_one c.loop-rest.rest c.loop-rest.ahead c.loop-rest-test.true fits w.if-ahead-eq1.true))
      | else-ahead-eq1 w ↦ (omega arith, omega (arith, w.left-is, carry_none c.loop-rest.rest c.loop-rest.ahead c.loop-rest-test.true fits w.if-ahead-eq1.false))
    ]

pub returns : goal.returns
returns c =
    let none : deposit 16 c.loop-rest.rest c.loop-rest.ahead ≡ 0 = ap (λ n. deposit 16 n c.loop-rest.ahead) c.loop-rest-test.false ∙ carry_end c.loop-rest.ahead in
    omega arith
