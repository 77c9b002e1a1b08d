use Rattle.std.proofs.Common.{drop, ap, ◌∙◌, arith, length-drop}
use Rattle.std.specs.Char.{is_ascii_digit}
use Rattle.std.specs.List.{prefix_len}
use Rattle.std.proofs.lemmas.List.{take_all}
use Rattle.texts.proofs.Runs.{run_at}
use Rattle.texts.proofs.cursor.Cursor.digits.Goals as goal

pub returns-clause-run : goal.returns-clause-run
returns-clause-run c =
    let bytes = c.args.self.now.text.now in
    let i = c.args.self.now.at in
    run_at bytes i _ c.args.self.now.within (c.digit_count-count.ensures.value ∙ ap (prefix_len is_ascii_digit) (take_all _ (drop i bytes) (simp length-drop (omega arith))))
