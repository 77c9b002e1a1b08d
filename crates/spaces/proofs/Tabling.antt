-- Tables made from spaces.
use Rattle.std.proofs.Common.{◌≡◌, ℕ, ◌<◌, ◌≤◌, List, [], map, get_or, sym, ap, ◌∙◌, ⊎_elim, arith}
use Rattle.std.specs.List.{range_with_len}
use Rattle.std.proofs.lemmas.List.{get_or_past}
use Rattle.std.proofs.lemmas.List.FromFn.{get_or-map-range_with_len, length-map-range_with_len}
use Rattle.std.proofs.lemmas.Bool.{cases_lt}
use Rattle.spaces.specs.declared.space.Alternative.{Alternative}
use Rattle.spaces.specs.Spaces.{Lawful, Meaning}
use Rattle.spaces.specs.Tables.{tabled}

-- the table of the lists of a space is that space
pub copied_means : (m : Meaning) (goals root : ℕ) (lists : List (List Alternative)) → Lawful m → goals ≡ m.goals → root ≡ m.root → lists ≡ map m.lists (range_with_len 0 m.goals) → tabled goals root lists ≡ m
copied_means m goals root lists law g r e = λ i. record { goals = g i; root = r i; lists = λ k. same k i }
  where
    same : (k : ℕ) → get_or lists k [] ≡ m.lists k
    same k =
        ap (λ xs. get_or xs k []) e
        ∙ ⊎_elim
        (λ (l : k < m.goals). get_or-map-range_with_len m.lists 0 m.goals k k [] l (omega arith))
        (λ (l : m.goals ≤ k). get_or_past (map m.lists (range_with_len 0 m.goals)) k [] (omega (arith, length-map-range_with_len m.lists 0 m.goals)) ∙ sym (law.outside k l))
        (cases_lt k m.goals)
