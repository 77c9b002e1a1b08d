use Rattle.campaigns.proofs.Listed.{written}
use Rattle.campaigns.proofs.writing.write_listing.Goals as goal

pub returns : goal.returns
returns g c =
    let s = c.args.counted.now in
    let w = written (g.C.Space.meaning s) (g.met.C.Space.lawful s) c.args.number c.write_plan.result c.args.plan.now c.write_plan.new.plan c.requires.below c.write_plan.ensures in
    record { long = w.0; fits = w.1; listed = w.2; written = w.3 }
