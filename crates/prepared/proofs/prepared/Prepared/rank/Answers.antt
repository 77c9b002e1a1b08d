use Rattle.std.proofs.Common.{rules, length}
use Rattle.numbering.specs.Ranks.{Ranked, rank_checks}
use Rattle.numbering.specs.Refusals.{first_of}
use Rattle.numbering.proofs.Only.{ranked_only}
use Rattle.prepared.specs.Prepares.{table}
use Rattle.prepared.proofs.prepared.Prepared.rank.Goals as goal

pub returns-in_err-ready_to_rank-clause-only : goal.returns-in_err-ready_to_rank-clause-only
returns-in_err-ready_to_rank-clause-only c other =
    let m = table c.args.self.now in
    let o = first_of (rank_checks m m.goals (length c.args.work.now)) in
    let answer : Ranked m o c.args.nodes.now c.from_residual.result = search rules in
    ranked_only m c.args.nodes.now o _ other answer

pub returns-clause-only : goal.returns-clause-only
returns-clause-only c other =
    let m = table c.args.self.now in
    let o = first_of (rank_checks m m.goals (length c.args.work.now)) in
    let answer : Ranked m o c.args.nodes.now c.number_of.result = search rules in
    ranked_only m c.args.nodes.now o _ other answer
