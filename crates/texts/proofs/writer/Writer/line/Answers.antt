use Rattle.std.proofs.Common.{[], ◌∷◌, ◌++◌, decimal}
use Rattle.texts.specs.Listed.{text}
use Rattle.texts.specs.Texts.{line}
use Rattle.texts.proofs.Writers.{writes_append}
use Rattle.texts.proofs.writer.Writer.line.Goals as goal

pub returns : goal.returns
unfolding line
returns c =
    let number = decimal c.args.number in
    let bytes = text c.args.nodes.now in
    writes_append _ _ _ number (32 ∷ (bytes ++ (10 ∷ []))) c.decimal.ensures
    (writes_append _ _ _ (32 ∷ []) (bytes ++ (10 ∷ [])) c.byte.ensures (writes_append _ _ _ bytes (10 ∷ []) c.text.ensures c.byte-2.ensures))
