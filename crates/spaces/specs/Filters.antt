-- The layer that keeps only some kinds of operator.
use Rattle.std.specs.Prelude.{ℕ, filter}
use Rattle.spaces.specs.Masks.{passes}
use Rattle.spaces.specs.Spaces.{Meaning}

-- goals and root are those below; of each list stay, in order, the alternatives whose kind is in the set
abbrev pub filtered : Meaning → ℕ → Meaning
filtered m bits = record { goals = m.goals; root = m.root; lists = λ g. filter (passes bits) (m.lists g) }
