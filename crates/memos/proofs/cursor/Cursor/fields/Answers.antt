use Rattle.std.proofs.Common.{◌-◌, arith, rules}
use Rattle.memos.proofs.Parts.{field_is, fields_passed}
use Rattle.memos.proofs.cursor.Cursor.fields.Goals as goal

pub returns-clause-fields : goal.returns-clause-fields
returns-clause-fields c =
    fields_passed _ _ _ _ _ c.args.map (c.args.self.now.at - 1) _ _ _ _ _ _ _ _ _ _ _ (omega arith)
    (field_is 2 _ _ _ _ _ _ (λ o h. search rules) c.in_ok-field.ensures)
    (field_is 1 _ _ _ _ _ _ (λ o h. search rules) c.in_ok-field-2.ensures)
    (field_is 2 _ _ _ _ _ _ (λ o h. search rules) c.in_ok-field-3.ensures)
    (field_is 2 _ _ _ _ _ _ (λ o h. search rules) c.in_ok-field-4.ensures)
    (field_is 2 _ _ _ _ _ _ (λ o h. search rules) c.in_ok-field-5.ensures).1
