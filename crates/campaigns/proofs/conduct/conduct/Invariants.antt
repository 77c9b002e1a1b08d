use Rattle.std.proofs.Common.{Ok}
use Rattle.campaigns.specs.Conduct.{Conducted}
use Rattle.campaigns.specs.Verdicts.{by_engine}
use Rattle.campaigns.proofs.conduct.conduct.Given as goal

abbrev pub invariant-loop : goal.invariant-loop
invariant-loop g l =
    Conducted (g.S.Space.meaning l.space) (by_engine (g.E.Engine.rule l.engine) (g.E.Engine.alike l.engine) (g.S.Space.meaning l.space))
    l.counter l.initial.state l.initial.finds l.finds (Ok l.state)
