-- What a campaign counts.
use Rattle.std.specs.Prelude.{ℕ, ◌+◌}
use Rattle.campaigns.specs.declared.counts.Counts.{Counts}
use Rattle.campaigns.specs.declared.outcome.Outcome.{Outcome}
use Rattle.campaigns.specs.declared.outcome.Outcome.TheVariants.{Agreed, Differing, Faulted}

abbrev pub no_counts : Counts
no_counts = record { drawn = 0; agreed = 0; differing = 0; faulted = 0; skipped = 0 }

abbrev pub one_drawn : Counts → Counts
one_drawn c = record { drawn = c.drawn + 1; agreed = c.agreed; differing = c.differing; faulted = c.faulted; skipped = c.skipped }

abbrev pub one_ran : Outcome → Counts → Counts
one_ran Agreed c = record { drawn = c.drawn; agreed = c.agreed + 1; differing = c.differing; faulted = c.faulted; skipped = c.skipped }
one_ran Differing c = record { drawn = c.drawn; agreed = c.agreed; differing = c.differing + 1; faulted = c.faulted; skipped = c.skipped }
one_ran (Faulted f) c = record { drawn = c.drawn; agreed = c.agreed; differing = c.differing; faulted = c.faulted + 1; skipped = c.skipped }

abbrev pub one_skipped : Counts → Counts
one_skipped c = record { drawn = c.drawn; agreed = c.agreed; differing = c.differing; faulted = c.faulted; skipped = c.skipped + 1 }

-- how many of the plans drawn are run or skipped
abbrev pub settled : Counts → ℕ
settled c = c.agreed + c.differing + c.faulted + c.skipped
