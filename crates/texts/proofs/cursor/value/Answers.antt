use Rattle.std.proofs.Common.{◌+◌, ◌<◌, arith}
use Rattle.std.specs.Str.Parse.{digits_value}
use Rattle.std.proofs.lemmas.Str.Parse.{digits_value-take-le}
use Rattle.texts.proofs.Runs.{digit_in, value_more}
use Rattle.texts.proofs.cursor.value.Goals as goal

pub returns-in_err-checked_mul : goal.returns-in_err-checked_mul
returns-in_err-checked_mul c =
    let ds = c.args.digits.now in
    let i = c.loop-digit.digit-index in
    let more = value_more ds i c.loop-digit.number c.requires c.loop-digit-test.true c.loop-digit.invariant.0 in
    let most = digits_value-take-le 10 ds (i + 1) (omega arith) in
    rw c.from_residual.ensures (λ (fits : digits_value 10 ds < 65536). c.in_err-checked_mul.ensures (omega arith))

pub overflow_sub-digit : goal.overflow_sub-digit
overflow_sub-digit c = (digit_in c.args.digits.now c.loop-digit.digit-index c.requires c.loop-digit-test.true).0

pub returns-in_err-number : goal.returns-in_err-number
returns-in_err-number c =
    let ds = c.args.digits.now in
    let i = c.loop-digit.digit-index in
    let more = value_more ds i c.loop-digit.number c.requires c.loop-digit-test.true c.loop-digit.invariant.0 in
    let most = digits_value-take-le 10 ds (i + 1) (omega arith) in
    rw c.from_residual-in_err-number.ensures (λ (fits : digits_value 10 ds < 65536). c.in_err-number.ensures (omega (arith, c.in_ok-checked_mul.ensures)))

pub loop-digit-preserved : goal.loop-digit-preserved
loop-digit-preserved c =
    let more = value_more c.args.digits.now c.loop-digit.digit-index c.loop-digit.number c.requires c.loop-digit-test.true c.loop-digit.invariant.0 in
    (omega (arith, c.in_ok-checked_mul.ensures, c.in_ok-number.ensures), omega (arith, c.in_ok-number.ensures))
