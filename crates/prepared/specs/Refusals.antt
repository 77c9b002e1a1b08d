-- The refusals to prepare a space: those of a count with a tally buffer that is just long enough, and want of memory.
use Rattle.std.specs.Prelude.{◌≡◌, ℕ, ◌<◌, Some, None, Option}
use Rattle.spaces.specs.Spaces.{Meaning}
use Rattle.numbering.specs.Refusals.{count_checks, first_of, number}
use Rattle.prepared.specs.declared.refusal.PrepareRefusal.{PrepareRefusal}
use Rattle.prepared.specs.declared.refusal.PrepareRefusal.TheVariants.{Count, NoMemory}

-- 20, 22 and 23; want of memory has no number
abbrev pub number_of : PrepareRefusal → Option ℕ
number_of (Count e) = Some (number e)
number_of NoMemory = None

-- why a space is not prepared: the first reason for which it is not counted, or want of memory, where it has goals
abbrev pub NotPrepared : Meaning → PrepareRefusal → Type 0
NotPrepared m (Count e) = first_of (count_checks m m.goals) ≡ Some e
NotPrepared m NoMemory = 0 < m.goals

-- a table prepared from m means m, and m is counted
pub record Prepares (m table : Meaning) : Type 0 where
  pub means : table ≡ m
  pub counted : first_of (count_checks m m.goals) ≡ None
