-- One piece of writing after another.
use Rattle.std.proofs.Common.{ℕ, ◌+◌, List, ◌++◌, length, sym, ap, ◌∙◌, arith, length-append}
use Rattle.texts.specs.declared.writer.Writer.{Writer}
use Rattle.texts.specs.Layout.{laid}
use Rattle.texts.specs.Writers.{HasSpace, Writes}
use Rattle.texts.proofs.Laid.{laid_append}

pub writes_append : (a b c : Writer) (xs ys : List ℕ) → Writes a b xs → Writes b c ys → Writes a c (xs ++ ys)
writes_append a b c xs ys p q =
    record {
      same_buffer = q.same_buffer ∙ p.same_buffer;
      at = omega (arith, p.at, q.at, length-append xs ys);
      long = q.long ∙ p.long;
      laid = q.laid ∙ ap (λ i. laid i ys b.out.now) p.at ∙ ap (laid (a.at + length xs) ys) p.laid ∙ sym (laid_append a.at xs ys a.out.now);
    }

pub space_after : (a b : Writer) (xs ys : List ℕ) → HasSpace a (xs ++ ys) → Writes a b xs → HasSpace b ys
space_after a b xs ys h p = omega (arith, p.at, p.long, length-append xs ys)
