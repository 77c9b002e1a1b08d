use Rattle.std.proofs.Common.{◌-◌, decimal, ap, ◌∙◌, arith, length-set}
use Rattle.std.proofs.lemmas.Fmt.{decimal_digit, decimal_nonempty}
use Rattle.texts.specs.Layout.{laid}
use Rattle.texts.proofs.Numerals.{laid_digit, laid_leading, more_left, one_left, size_one, size_step}
use Rattle.texts.proofs.writer.Writer.decimal.Goals as goal

pub byte-requires : goal.byte-requires
byte-requires c = omega (arith, c.requires, size_one c.args.number c.if-number-lt10.true)

pub returns-then-number-lt10 : goal.returns-then-number-lt10
returns-then-number-lt10 c = rw (decimal_digit c.args.number c.if-number-lt10.true) c.byte.ensures

pub loop-index-preserved : goal.loop-index-preserved
loop-index-preserved c =
    let n = c.loop-index.left in
    let j = c.loop-index.index - 1 in
    let before = c.loop-index.invariant in
    let now = c.loop-index.self in
    let ten = more_left n (omega arith) in
    record {
      same_buffer = before.same_buffer;
      at = before.at;
      long = length-set now.out.now j _ ∙ before.long;
      small = omega arith;
      left = omega (arith, size_step n ten before.small);
      same = laid_digit n now.at j now.out.now ten before.small (omega arith) ∙ before.same;
    }

pub overflow_cast-self-2 : goal.overflow_cast-self-2
overflow_cast-self-2 c = omega (arith, one_left c.loop-index.left c.loop-index.invariant.small (omega arith))

pub overflow_add-self-2 : goal.overflow_add-self-2
overflow_add-self-2 c = omega (arith, one_left c.loop-index.left c.loop-index.invariant.small (omega arith))

pub bounds-self-self : goal.bounds-self-self
bounds-self-self c = omega (arith, c.loop-index.invariant, decimal_nonempty c.args.number (omega arith))

pub returns : goal.returns
returns c =
    let n = c.loop-index.left in
    let last = c.loop-index.invariant in
    let now = c.loop-index.self in
    record {
      same_buffer = last.same_buffer;
      at = omega arith;
      long = length-set now.out.now now.at _ ∙ last.long;
      laid = laid_leading n now.at now.out.now (one_left n last.small (omega arith)) ∙ last.same ∙ ap (λ k. laid k (decimal c.args.number) c.args.self.now.out.now) last.at;
    }
