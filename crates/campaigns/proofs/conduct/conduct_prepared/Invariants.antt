use Rattle.std.proofs.Common.{Ok}
use Rattle.prepared.specs.Prepares.{table}
use Rattle.campaigns.specs.Baselines.{Keeps}
use Rattle.campaigns.specs.Conduct.{Conducted}
use Rattle.campaigns.specs.Verdicts.{by_engine}
use Rattle.campaigns.proofs.conduct.conduct_prepared.Given as goal

abbrev pub invariant-loop : goal.invariant-loop
invariant-loop g l =
    Conducted (table l.space) (by_engine (g.E.Engine.rule l.engine) (g.E.Engine.alike l.engine) (table l.space))
    l.counter l.initial.state l.initial.finds l.finds (Ok l.state)
    × Keeps (g.E.Engine.rule l.engine) (table l.space) l.state.baseline l.baseline.kept
