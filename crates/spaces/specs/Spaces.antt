-- What a plan space means, and the laws of every space.
use Rattle.std.specs.Prelude.{◌≡◌, ℕ, ◌+◌, ◌<◌, ◌≤◌, List, [], ◌∷◌, ◌++◌, length, take, drop, IfOk, Result, ◌≢◌}
use Rattle.std.specs.List.{AllByRecursion}
use Rattle.spaces.specs.declared.space.Alternative.{Alternative}
use Rattle.spaces.specs.declared.space.Alternatives.{Alternatives}
use Rattle.spaces.specs.Kinds.{arity}

-- goals from 0, each with a list of alternatives, and the goal that complete plans are for
pub record Meaning : Type 0 where
  pub goals : ℕ
  pub root : ℕ
  pub lists : ℕ → List Alternative

-- an alternative of goal g: its children are below g, and a child that it has not is 0
pub record Sound (g : ℕ) (a : Alternative) : Type 0 where
  pub left_below : 1 ≤ arity a.kind → a.left < g
  pub left_unused : arity a.kind ≡ 0 → a.left ≡ 0
  pub right_below : arity a.kind ≡ 2 → a.right < g
  pub right_unused : arity a.kind ≤ 1 → a.right ≡ 0
  pub tag_fits : a.tag < 65536

-- no two of a list are equal
abbrev pub Apart : {X : Type 0} → List X → Type 0
Apart [] = Unit {0}
Apart (x ∷ xs) = AllByRecursion (λ y. x ≢ y) xs × Apart xs

pub record Lawful (m : Meaning) : Type 0 where
  pub few : m.goals ≤ 4096
  pub root_below : 0 < m.goals → m.root < m.goals
  pub root_none : m.goals ≡ 0 → m.root ≡ 0
  pub outside : (g : ℕ) → m.goals ≤ g → m.lists g ≡ []
  pub narrow : (g : ℕ) → length (m.lists g) ≤ 4096 + g
  pub sound : (g : ℕ) → AllByRecursion (Sound g) (m.lists g)
  pub distinct : (g : ℕ) → Apart (m.lists g)

-- What a call leaves of a list that it appends xs to: xs stands behind what stood there, `old`; where memory was short, it still begins with that.
pub record Appended {E : Type 0} (old now xs : List Alternative) (r : Result (Unit {0}) E) : Type 0 where
  pub front : take (length old) now ≡ old
  pub whole : IfOk r (λ _. now ≡ old ++ xs)

-- the alternatives that an iterator over a goal's still has to give
abbrev pub ahead : {S : Type 0} → (S → Meaning) → Alternatives S → List Alternative
ahead meaning it = drop it.index ((meaning it.space.now).lists it.goal)
