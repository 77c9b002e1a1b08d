-- Sets of relations as numbers: relation q is in a set whose binary digit q is one.
use Rattle.std.specs.Prelude.{◌≡◌, ℕ, ◌/◌, ◌%◌, ◌^◌, Bool, true, ◌||◌, ◌==◌}

-- whether relation q is in a set
abbrev pub has : ℕ → ℕ → Bool
has q set = (set / 2 ^ q % 2) == 1

-- one relation, and no other
abbrev pub Only : ℕ → ℕ → Type 0
Only relation set = (q : ℕ) → has q set ≡ (q == relation)

-- the relations of a and of b, and no other
abbrev pub Union : ℕ → ℕ → ℕ → Type 0
Union a b set = (q : ℕ) → has q set ≡ (has q a || has q b)

-- some relation is in both
abbrev pub Shared : ℕ → ℕ → Type 0
Shared a b = (q : ℕ) × (has q a ≡ true) × (has q b ≡ true)

-- the same relations are in both
abbrev pub Equal : ℕ → ℕ → Type 0
Equal a b = (q : ℕ) → has q a ≡ has q b
