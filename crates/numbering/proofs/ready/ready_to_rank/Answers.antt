use Rattle.std.proofs.Common.{ℕ, ltb, length, ap, arith}
use Rattle.std.proofs.lemmas.Bool.{le-ltb}
use Rattle.numbering.specs.declared.refusal.Refusal.TheVariants.{WorkShort}
use Rattle.numbering.specs.Refusals.{count_checks, first_of, largest, plans}
use Rattle.numbering.proofs.Tables as tables
use Rattle.numbering.proofs.ready.ready_to_rank.Goals as goal

pub returns : goal.returns
returns g c =
    let m = g.S.Space.meaning c.args.space.now in
    let ts = c.args.tallies.now in
    let checks = count_checks m (length ts) in
    let told = c.in_ok-plans.ensures.answer in
    let both : ℕ × ℕ = (plans m, largest m) in
    let read : ℕ × ℕ = (c.in_ok-plans.plans, c.in_ok-plans.size) in
    let known = tables.ok_none (first_of checks) both read told in
    let size = ap (λ (p : ℕ × ℕ). p.1) known.1 in
    record {
      answer = tables.answer_past checks (ltb c.args.work (largest m)) WorkShort both read told (le-ltb c.args.work (largest m) (omega (arith, size, c.from.ensures, c.if-work-from.false)));
      tallies = c.count.ensures.tallies;
      standing = (tables.standing m ts c.count.new.tallies known.0 c.count.ensures.tallies c.count.auto.tallies, omega (arith, size, c.from.ensures, c.if-work-from.false));
    }
