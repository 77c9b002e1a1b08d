-- A plan that was drawn is the complete plan that has its number.
use Rattle.std.proofs.Common.{◌≡◌, ◌+◌, ◌*◌, ◌<◌, List, take, mod-lt, arith}
use mathlib.Core.Path.{subst⁻¹}
use Rattle.spaces.specs.Spaces.{Lawful, Meaning}
use Rattle.numbering.specs.declared.node.Node.{Node}
use Rattle.numbering.specs.Numbers.{Numbers}
use Rattle.numbering.specs.Refusals.{plans}
use Rattle.campaigns.specs.declared.campaign.Drawn.{Drawn}
use Rattle.campaigns.specs.declared.campaign.Ready.{Ready}
use Rattle.campaigns.specs.Calls.{Next}
use Rattle.campaigns.specs.Walks.{walk}
use Rattle.campaigns.proofs.Listed.{drawn_list, listing_numbers}

pub next_numbers : (m : Meaning) → Lawful m → (s : Ready) (old new : List Node) (d : Drawn) → plans m ≡ s.n → Next m s old new d → Numbers m (take d.len new) d.number
next_numbers m law s old new d same e =
    let low : walk s.n s.start s.step s.counts.drawn < s.n = mod-lt (s.start + s.counts.drawn * s.step) (omega (arith, s.starts)) in
    let below : d.number < plans m = omega (arith, e.2, low, same) in
    subst⁻¹ (λ l. Numbers m l d.number) (drawn_list m d.number d.len old new e.3 e.4) (listing_numbers m law d.number below)
