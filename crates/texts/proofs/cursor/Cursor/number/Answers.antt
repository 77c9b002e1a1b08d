use Rattle.std.proofs.Common.{◌≡◌, ◌<◌, ◌≤◌, get_or, length, arith}
use Rattle.std.proofs.lemmas.Grind.{common_steps}
use Rattle.texts.proofs.Runs.{number_empty, number_fits, number_zero}
use Rattle.texts.proofs.cursor.Cursor.number.Goals as goal
use Rattle.texts.proofs.cursor.Cursor.number.Goals.{else-digits-gt1-via-else-digits-gt1, else-digits-gt1-via-then-digits-gt1+else-digits-eq48}

pub returns-then-is_empty-clause-number : goal.returns-then-is_empty-clause-number
returns-then-is_empty-clause-number c =
    number_empty _ c.digits-digits.result.now _ _ c.digits-digits.ensures.run c.digits-digits.ensures.value (grind (arith, common_steps))

pub returns-then-digits-eq48-clause-number : goal.returns-then-digits-eq48-clause-number
returns-then-digits-eq48-clause-number c =
    number_zero _ c.digits-digits.result.now _ _ c.digits-digits.ensures.run c.digits-digits.ensures.value c.if-digits-eq48.true c.if-digits-gt1.true

pub returns-clause-number : goal.returns-clause-number
returns-clause-number c =
    let ds = c.digits-digits.result.now in
    let some : 0 < length ds = grind (arith, common_steps) in
    let plain : get_or ds 0 0 ≡ 48 → length ds ≤ 1 =
    elim c.else-digits-gt1.branch [
      | else-digits-gt1-via-then-digits-gt1+else-digits-eq48 w ↦ λ z. absurd (w.if-digits-eq48.false z)
      | else-digits-gt1-via-else-digits-gt1 w ↦ λ z. w.if-digits-gt1.false
    ] in
    number_fits _ ds _ _ c.digits-digits.ensures.run c.digits-digits.ensures.value c.value.result some plain c.value.ensures
