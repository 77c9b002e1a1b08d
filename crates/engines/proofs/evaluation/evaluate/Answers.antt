use Rattle.std.proofs.Common.{◌≡◌, arith}
use Rattle.std.proofs.lemmas.Grind.{common_steps}
use Rattle.engines.specs.Values.{value_of_list}
use Rattle.engines.proofs.Values.{valued}
use Rattle.engines.proofs.evaluation.evaluate.Goals as goal

pub returns-in_err-top-clause-planned : goal.returns-in_err-top-clause-planned
returns-in_err-top-clause-planned g c =
    let rule = g.E.Engine.rule c.args.engine.now in
    let listed : c.from_residual.result ≡ value_of_list rule c.args.nodes.now = grind (arith, common_steps) in
    valued rule c.args.nodes.now c.from_residual.result listed
