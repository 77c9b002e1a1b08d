-- Complete plans and the numbers below N are one to one.
use Rattle.std.proofs.Common.{suc, [], ◌++◌, Some, sym, refl, ap, ◌∙◌, arith}
use Rattle.spaces.specs.Spaces.{Lawful, Meaning}
use Rattle.spaces.specs.Places.{some_inj}
use Rattle.numbering.specs.Numbers.{Numbering}
use Rattle.numbering.specs.Plans.{nodes}
use Rattle.numbering.proofs.Same.{same_tree}
use Rattle.numbering.proofs.Trees.{make, number_below, parse, same_number}

pub numbering : (m : Meaning) → Lawful m → Numbering m
numbering m law = record {
  within = λ list n p. omega (arith, number_below m law p.0, p.2);
  one_number = λ list n k p q.
      sym p.2 ∙ (parse m law p.0 q.0 [] [] refl (ap (λ x. x ++ []) (p.1 ∙ sym q.1))).1 ∙ q.2;
  one_list = λ list other n p q. sym p.1 ∙ same_number m law p.0 q.0 refl (p.2 ∙ sym q.2) ∙ q.1;
  every_number = λ n h.
      let t = make m law (suc m.root) (Some m.root) n (λ g e. omega (arith, some_inj e)) h in
      (nodes t.0, (t.0, refl, t.1));
  one_tree = λ t s e. same_tree m law t s e;
}
