-- A campaign begun with as many plans as the space has is made.
use Rattle.std.proofs.Common.{◌≡◌, ℕ, None, Ok, Err, Option, Result, ap, ◌∙◌, subst, arith}
use Rattle.spaces.specs.Spaces.{Meaning}
use Rattle.numbering.specs.declared.refusal.Refusal.{Refusal}
use Rattle.numbering.specs.Refusals.{answered, count_checks, first_of, largest, plans}
use Rattle.campaigns.specs.declared.campaign.Ready.{Ready}
use Rattle.campaigns.specs.declared.refusal.CampaignRefusal.{CampaignRefusal}
use Rattle.campaigns.specs.Calls.{Begun, Made}
use Rattle.campaigns.specs.Refusals.{make_checks, space_first}

answered_ok : (o : Option Refusal) (x y : ℕ × ℕ) → Ok x ≡ answered o y → (o ≡ None) × (x ≡ y)
answered_ok o x y h = grind arith

module _ (m : Meaning) (tallies start step baseline : ℕ) (passed : first_of (count_checks m tallies) ≡ None) where
  by_passed : (r : Result Ready CampaignRefusal) → Begun (plans m) start step baseline r → Made m tallies start step baseline r
  by_passed (Ok c) h = (ap (λ o. space_first o (make_checks (plans m) start step baseline)) passed ∙ h.0, h.1)
  by_passed (Err e) h = ap (λ o. space_first o (make_checks (plans m) start step baseline)) passed ∙ h

pub begun_made : (m : Meaning) (tallies start step baseline n z : ℕ) (r : Result Ready CampaignRefusal)
    → ◌≡◌ {A = Result (ℕ × ℕ) Refusal} (Ok (n, z)) (answered (first_of (count_checks m tallies)) (plans m, largest m)) → Begun n start step baseline r → Made m tallies start step baseline r
begun_made m tallies start step baseline n z r counted h =
    let a = answered_ok (first_of (count_checks m tallies)) (n, z) (plans m, largest m) counted in
    by_passed m tallies start step baseline a.0 r (subst (λ k. Begun k start step baseline r) (ap (λ (p : ℕ × ℕ). p.0) a.1) h)
