-- What a call answers that has some bytes to write.
use Rattle.std.proofs.Common.{◌≡◌, ℕ, ◌<◌, ◌≤◌, ltb, List, length, Ok, Err, Result, sym, ap, ◌∙◌, subst}
use Rattle.std.proofs.lemmas.Bool.{cond-false, cond-true, le-ltb, lt-ltb}
use Rattle.numbering.specs.declared.node.Node.{Node}
use Rattle.numbering.specs.declared.refusal.Refusal.{Refusal}
use Rattle.numbering.specs.declared.refusal.Refusal.TheVariants.{TextShort}
use Rattle.texts.specs.Layout.{laid}
use Rattle.texts.specs.Listed.{text}
use Rattle.texts.specs.Texts.{PlanSpelled, Spelled}
use Rattle.texts.proofs.Laid.{laid_start}
use Rattle.texts.proofs.TreeTexts.{text_tree}

pub too_short : (bytes old : List ℕ) → length old < length bytes → Spelled bytes (Err TextShort) old old
too_short bytes old h =
    let short = lt-ltb (length old) (length bytes) h in
    record {
      answer = sym (cond-true (ltb (length old) (length bytes)) _ _ short);
      buffer = sym (cond-true (ltb (length old) (length bytes)) _ _ short);
    }

pub written : (bytes old new : List ℕ) (n : ℕ) → n ≡ length bytes → length bytes ≤ length old → new ≡ laid 0 bytes old → Spelled bytes (Ok n) old new
written bytes old new n e h is =
    let fits = le-ltb (length old) (length bytes) h in
    record {
      answer = ap Ok e ∙ sym (cond-false (ltb (length old) (length bytes)) _ _ fits);
      buffer = is ∙ laid_start bytes old h ∙ sym (cond-false (ltb (length old) (length bytes)) _ _ fits);
    }

pub plan_spelled : (list : List Node) (r : Result ℕ Refusal) (old new : List ℕ) → Spelled (text list) r old new → PlanSpelled list r old new
plan_spelled list r old new said m g t e = subst (λ b. Spelled b r old new) (ap text (sym e) ∙ text_tree t) said
