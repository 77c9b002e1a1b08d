-- The facts that a prepared space holds.
use Rattle.std.proofs.Common.{◌≡◌, ℕ, None, vec_items, sym, subst}
use Rattle.spaces.specs.Spaces.{Lawful}
use Rattle.numbering.specs.Census.{Census}
use Rattle.numbering.specs.Numbers.{Numbering}
use Rattle.numbering.specs.Refusals.{count_checks, first_of, largest, plans}
use Rattle.numbering.specs.Standing.{Standing}
use Rattle.numbering.proofs.Numberings.{numbering}
use Rattle.numbering.proofs.Rolls.{census}
use Rattle.prepared.specs.declared.prepared.Prepared.{Prepared}
use Rattle.prepared.specs.Prepares.{table}
use Rattle.prepared.proofs.Ready.{counted}

pub law_of : (p : Prepared) → Lawful (table p)
law_of p = p.table.lawful

pub up_of : (p : Prepared) → Standing (table p) (vec_items p.tallies)
up_of p = p.standing

pub counted_of : (p : Prepared) → first_of (count_checks (table p) (table p).goals) ≡ None
counted_of p = counted (table p) (vec_items p.tallies) p.standing

pub census_of : (p : Prepared) (n z : ℕ) → n ≡ plans (table p) → z ≡ largest (table p) → Census (table p) n z
census_of p n z n= z= = subst (λ k. Census (table p) k z) (sym n=) (subst (Census (table p) (plans (table p))) (sym z=) (census (table p) p.table.lawful))

pub numbering_of : (p : Prepared) → Numbering (table p)
numbering_of p = numbering (table p) p.table.lawful
