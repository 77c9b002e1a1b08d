-- The layer that tells apart goals in any order and sorted ones: goal 2g is 'g in any order', and goal 2g + 1 is 'g sorted'.
use Rattle.std.specs.Prelude.{◌≡◌, ℕ, ◌+◌, ◌*◌, ◌/◌, ◌%◌, ◌<◌, Bool, true, false, cond, List, [], ◌∷◌, ◌++◌, map, filter, ◌==◌, nat_le, nat_lt}
use Rattle.std.specs.List.{AllByRecursion}
use Rattle.spaces.specs.declared.kind.Kind.TheVariants.{Sort}
use Rattle.spaces.specs.declared.order.Order.{Order}
use Rattle.spaces.specs.declared.order.Order.TheVariants.{Any, Sorted}
use Rattle.spaces.specs.declared.space.Alternative.{Alternative}
use Rattle.spaces.specs.Sorting.{output_sorted, wants_left, wants_right}
use Rattle.spaces.specs.Spaces.{Meaning}

-- the goal 'c sorted' or 'c in any order'
abbrev pub place : Bool → ℕ → ℕ
place true c = 2 * c + 1
place false c = 2 * c

-- whether a goal of the layer is a sorted one
abbrev pub is_sorted : ℕ → Bool
is_sorted h = h % 2 == 1

-- whether a wish asks for sorted rows
abbrev pub asks : Order → Bool
asks Any = false
asks Sorted = true

-- children below 4,096, as every alternative of a space has them
abbrev pub Small : Alternative → Type 0
Small a = (a.left < 4096) × (a.right < 4096)

-- An alternative below as one of the layer, where `asked` tells whether its output has to be sorted: each child becomes the goal that the order
-- rules want. A child that it has not is wanted in any order, and stays 0.
abbrev pub lifted : Bool → Alternative → Alternative
lifted asked a = record {
  kind = a.kind;
  tag = a.tag;
  left = place (wants_left a.kind a.tag asked) a.left;
  right = place (wants_right a.kind a.tag) a.right;
}

-- whether the output of an alternative is sorted, or is where its left child's is
abbrev pub sortable : Alternative → Bool
sortable a = output_sorted a.kind a.tag true

-- the sort of 'g in any order'
abbrev pub sort_of : ℕ → Alternative
sort_of g = record { kind = Sort; tag = 0; left = place false g; right = 0 }

-- the list of 'g sorted' or 'g in any order', where xs is that of g
abbrev pub order_list : Bool → ℕ → List Alternative → List Alternative
order_list true g xs = map (lifted true) (filter sortable xs) ++ (sort_of g ∷ [])
order_list false g xs = map (lifted false) xs

-- the alternatives that the layer has for goal g of m in an order
abbrev pub in_order : Order → ℕ → Meaning → List Alternative
in_order order g m = order_list (asks order) g (m.lists g)

-- twice the goals below, and none over more than 2,048
abbrev pub order_goals : ℕ → ℕ
order_goals n = cond (nat_le n 2048) (2 * n) 0

-- the layer over m; without goals its root is 0
abbrev pub ordered : Meaning → Order → Meaning
ordered m wish = record {
  goals = order_goals m.goals;
  root = cond (order_goals m.goals == 0) 0 (place (asks wish) m.root);
  lists = λ h. cond (nat_lt h (order_goals m.goals)) (order_list (is_sorted h) (h / 2) (m.lists (h / 2))) [];
}

-- What goal h promises of its alternative a, where the output for each sorted child goal is sorted: for a sorted h the output of a is sorted, and a child
-- that has to be sorted is a sorted goal.
pub record Orderly (h : ℕ) (a : Alternative) : Type 0 where
  pub gives : is_sorted h ≡ true → output_sorted a.kind a.tag (is_sorted a.left) ≡ true
  pub left_met : wants_left a.kind a.tag (is_sorted h) ≡ true → is_sorted a.left ≡ true
  pub right_met : wants_right a.kind a.tag ≡ true → is_sorted a.right ≡ true

-- every goal keeps that promise for all its alternatives
abbrev pub KeepsOrders : Meaning → Type 0
KeepsOrders m = (h : ℕ) → AllByRecursion (Orderly h) (m.lists h)
