-- All bushy trees over some relations. A goal is a set of relations: relation r is its binary digit r.
use Rattle.std.specs.Prelude.{ℕ, zero, suc, ◌+◌, ◌-◌, ◌*◌, ◌/◌, ◌%◌, ◌^◌, cond, List, [], ◌∷◌, map, ◌==◌, count_ones, nat_lt}
use Rattle.std.specs.Int.Count.{count_trailing_zeros}
use Rattle.std.specs.List.{range_with_len}
use Rattle.spaces.specs.declared.kind.Kind.{Kind}
use Rattle.spaces.specs.declared.kind.Kind.TheVariants.{Scan}
use Rattle.spaces.specs.declared.space.Alternative.{Alternative}
use Rattle.spaces.specs.Spaces.{Meaning}

-- The digits of x, lowest first, carried to the places of the ones of g, lowest first. The first argument is how many digits of g are still to
-- be looked at. It is no `abbrev`: at 16 digits it would unfold to 2 ^ 16 terms.
unfoldable pub deposit : ℕ → ℕ → ℕ → ℕ
deposit zero g x = 0
deposit (suc d) g x = cond (g % 2 == 1) (x % 2 + 2 * deposit d (g / 2) (x / 2)) (2 * deposit d (g / 2) x)

-- the one alternative of a set of one relation: its scan, with the relation for a tag
abbrev pub scan : ℕ → Alternative
scan g = record { kind = Scan; tag = count_trailing_zeros 16 g; left = 0; right = 0 }

-- alternative j of a larger set: the digits of j + 1 choose the left side, and the rest is the right side
abbrev pub split : Kind → ℕ → ℕ → Alternative
split join g j = record { kind = join; tag = 0; left = deposit 16 g (j + 1); right = g - deposit 16 g (j + 1) }

-- the empty set has 2 ^ 0 - 2 alternatives, which is none
abbrev pub bushy_list : Kind → ℕ → List Alternative
bushy_list join g = cond (count_ones g == 1) (scan g ∷ []) (map (split join g) (range_with_len 0 (2 ^ count_ones g - 2)))

abbrev pub bushes : ℕ → Kind → Meaning
bushes n join = record { goals = 2 ^ n; root = 2 ^ n - 1; lists = λ g. cond (nat_lt g (2 ^ n)) (bushy_list join g) [] }
