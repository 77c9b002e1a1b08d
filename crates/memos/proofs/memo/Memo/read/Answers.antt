use Rattle.std.proofs.Common.{sym}
use Rattle.std.proofs.lemmas.Result.{err_from_is_err_and}
use Rattle.memos.specs.Opens.{Opened}
use Rattle.memos.specs.Slices.{slice_space}
use Rattle.memos.proofs.Opening.{all_bytes, loaded, not_opened, opened_lawful, records_stop}
use Rattle.memos.proofs.memo.Memo.read.Goals as goal
use Rattle.memos.proofs.memo.Memo.read.Goals.{In_ok-lists}

pub returns-in_err-lists : goal.returns-in_err-lists
returns-in_err-lists c =
    let file = c.args.file.now in
    let p = err_from_is_err_and c.from_residual-in_err-lists.result c.from_residual-in_err-lists.ensures.1 in
    rw (p.1, p.2) (not_opened file c.in_err-lists.field-0.0 (all_bytes file c.type_inv.file) (records_stop file c.in_ok-header.header (sym c.in_ok-header.ensures) c.in_err-lists.field-0.0 (rw (c.new.ensures.file, c.new.ensures.at) at c.in_err-lists.ensures)))

opened : (c : goal.In_ok-lists) → Opened c.args.file.now (slice_space c.in_ok-header.header.goals c.in_ok-header.header.root c.in_ok-lists.lists.items.items c.in_ok-lists.lists.starts.items)
opened c = loaded c.args.file.now c.in_ok-header.header (sym c.in_ok-header.ensures) c.in_ok-lists.lists.items.items c.in_ok-lists.lists.starts.items (all_bytes c.args.file.now c.type_inv.file) (rw (c.new.ensures.file, c.new.ensures.at) at c.in_ok-lists.ensures)

pub invariant_of-result : goal.invariant_of-result
invariant_of-result c = record { lawful = opened_lawful c.args.file.now _ (opened (goal.at.invariant_of-result c).In_ok-lists) }

pub returns : goal.returns
returns c = opened (goal.at.returns c).In_ok-lists
