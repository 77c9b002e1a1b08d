use Rattle.std.proofs.Common.{mod-eq_of_lt}
use native.Mathlib.Nat.{div-eq_of_lt}
use Rattle.numbering.proofs.writing.shares.Goals as goal

pub returns-then-rest-left : goal.returns-then-rest-left
returns-then-rest-left c = cc (mod-eq_of_lt c.if-rest-left.true, div-eq_of_lt c.if-rest-left.true)
