-- The alternatives of all goals in one list, with the places where each goal's begin.
use Rattle.std.specs.Prelude.{ℕ, ◌+◌, ◌-◌, ◌≤◌, List, length, take, drop, slice_index_or}
use Rattle.spaces.specs.declared.space.Alternative.{Alternative}
use Rattle.spaces.specs.Spaces.{Meaning}

-- where the alternatives of goal k begin: past the starts that are written, at the end
abbrev pub begins : List Alternative → List ℕ → ℕ → ℕ
begins items starts k = slice_index_or starts k (length items)

-- the alternatives of goal k
abbrev pub sliced : List Alternative → List ℕ → ℕ → List Alternative
sliced items starts k = take (begins items starts (k + 1) - begins items starts k) (drop (begins items starts k) items)

abbrev pub slice_space : ℕ → ℕ → List Alternative → List ℕ → Meaning
slice_space goals root items starts = record { goals = goals; root = root; lists = sliced items starts }

-- The starts never fall, and stay within. (A product and no record, so that it is seen to be a proposition.)
abbrev pub Indexed : List Alternative → List ℕ → Type 0
Indexed items starts = ((k : ℕ) → begins items starts k ≤ begins items starts (k + 1)) × ((k : ℕ) → begins items starts k ≤ length items)
