use Rattle.std.proofs.Common.{ℕ, length, sym, subst, arith}
use Rattle.std.proofs.lemmas.List.{take_at}
use Rattle.numbering.specs.Refusals.{count_checks, first_of, largest, plans}
use Rattle.numbering.specs.Standing.{Standing}
use Rattle.numbering.proofs.Tables as tables
use Rattle.prepared.proofs.tallying.tally_goals.Goals as goal

pub returns : goal.returns
returns g c =
    let m = g.S.Space.meaning c.args.space.now in
    let ts = c.as_mut_slice.result.now in
    let us = c.count.new.tallies in
    let both : ℕ × ℕ = (plans m, largest m) in
    let known = tables.ok_none (first_of (count_checks m (length ts))) both c.in_ok-count.field-0 c.in_ok-count.ensures.answer in
    let up : Standing m us = tables.standing m ts us known.0 c.count.ensures.tallies c.count.auto.tallies in
    subst (Standing m) (sym (take_at us _ c.in_ok-tallies.tallies.len (omega (arith, c.count.auto.tallies, c.as_mut_slice.ensures.len)))) up
