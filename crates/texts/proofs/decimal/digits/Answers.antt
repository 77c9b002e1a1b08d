use Rattle.std.proofs.Common.{sym, arith}
use Rattle.texts.proofs.Numerals.{size_log, size_one}
use Rattle.texts.proofs.decimal.digits.Goals as goal

pub returns-then-number-lt10 : goal.returns-then-number-lt10
returns-then-number-lt10 c = sym (size_one c.args.number c.if-number-lt10.true)

pub returns : goal.returns
returns c = sym (size_log c.ilog10.result c.args.number c.ilog10.ensures.power_le c.ilog10.ensures.next_power_gt (omega arith))
