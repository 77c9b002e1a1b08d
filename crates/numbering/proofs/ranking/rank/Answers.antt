use Rattle.std.proofs.Common.{ℕ, length, Err, ap, ◌∙◌}
use Rattle.std.proofs.lemmas.Result.{err_from_is_err_and}
use Rattle.numbering.specs.Ranks.{rank_checks}
use Rattle.numbering.specs.Refusals.{first_of, largest, plans}
use Rattle.numbering.proofs.Numberings.{numbering}
use Rattle.numbering.proofs.Only.{ranked_only}
use Rattle.numbering.proofs.Tables as tables
use Rattle.numbering.proofs.ranking.rank.Goals as goal

pub returns-in_err-ready_to_rank : goal.returns-in_err-ready_to_rank
returns-in_err-ready_to_rank g c =
    let s = c.args.space.now in
    let m = g.S.Space.meaning s in
    let list = c.args.nodes.now in
    let o = first_of (rank_checks m (length c.args.tallies.now) (length c.args.work.now)) in
    let both : ℕ × ℕ = (plans m, largest m) in
    let p = err_from_is_err_and c.from_residual.result c.from_residual.ensures.1 in
    let e = c.in_err-ready_to_rank.field-0.0 in
    let answer = tables.ranked_refused m o list c.from_residual.result e (tables.err_some o both e c.in_err-ready_to_rank.ensures.answer) (p.1 ∙ ap Err p.2) in
    record {
      answer = answer;
      only = λ r other. ranked_only m list o c.from_residual.result r answer other;
      tallies = c.ready_to_rank.ensures.tallies;
      numbering = numbering m (g.met.S.Space.lawful s);
    }

pub returns : goal.returns
returns g c =
    let s = c.args.space.now in
    let m = g.S.Space.meaning s in
    let list = c.args.nodes.now in
    let o = first_of (rank_checks m (length c.args.tallies.now) (length c.args.work.now)) in
    let both : ℕ × ℕ = (plans m, largest m) in
    let past = tables.ok_none o both c.in_ok-ready_to_rank.field-0 c.in_ok-ready_to_rank.ensures.answer in
    let answer = tables.ranked_judged m o list c.number_of.result past.0 c.number_of.ensures in
    record {
      answer = answer;
      only = λ r other. ranked_only m list o c.number_of.result r answer other;
      tallies = c.ready_to_rank.ensures.tallies;
      numbering = numbering m (g.met.S.Space.lawful s);
    }
