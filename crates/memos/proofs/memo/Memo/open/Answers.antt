use Rattle.memos.proofs.Format.{settled}
use Rattle.memos.proofs.Opening.{all_bytes}
use Rattle.memos.proofs.memo.Memo.open.Goals as goal

pub returns-in_err-memo-clause-format : goal.returns-in_err-memo-clause-format
returns-in_err-memo-clause-format c = settled _ (all_bytes c.args.file.now c.type_inv.file)

pub returns-clause-format : goal.returns-clause-format
returns-clause-format c = settled _ (all_bytes c.args.file.now c.type_inv.file)
