use Rattle.std.proofs.Common.{of_calls, rules}
use Rattle.memos.proofs.cursor.Cursor.field.Goals as goal

pub returns-in_err-read : goal.returns-in_err-read
returns-in_err-read g c = rw c.if-stands.true (c.read.result, search (rules, of_calls), rw c.from_residual.ensures (search rules))

pub returns-in_ok-read : goal.returns-in_ok-read
returns-in_ok-read g c = rw c.if-stands.true (c.read.result, search (rules, of_calls), search rules)
