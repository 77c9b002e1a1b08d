use Rattle.memos.proofs.Alone.{alone_read}
use Rattle.memos.proofs.record.read_alone.Goals as goal

pub returns-clause-alone : goal.returns-clause-alone
returns-clause-alone c = alone_read _ _ _ _ _ _ _ c.in_ok-fields.ensures.fields c.checked.ensures
