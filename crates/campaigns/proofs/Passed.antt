-- What a call's checks came to.
use Rattle.std.proofs.Common.{◌≡◌, Some, None, Ok, Err, Option, arith}
use Rattle.campaigns.specs.declared.refusal.CampaignRefusal.{CampaignRefusal}
use Rattle.campaigns.specs.Calls.{passed}

pub passed_none : (o : Option CampaignRefusal) → Ok tt ≡ passed o → o ≡ None
passed_none o h = grind arith

pub passed_some : (o : Option CampaignRefusal) (e : CampaignRefusal) → Err e ≡ passed o → o ≡ Some e
passed_some o e h = grind arith
