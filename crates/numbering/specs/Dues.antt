-- The goals that are still due, as a stack.
use Rattle.std.specs.Prelude.{ℕ, zero, suc, List, [], ◌∷◌, Some, None, Option, slice_index_or}
use Rattle.spaces.specs.declared.space.Alternative.{Alternative}
use Rattle.numbering.specs.declared.due.Due.{Due}
use Rattle.numbering.specs.Plans.{left_due, right_due}

abbrev pub due : ℕ → ℕ → Due
due g n = record { goal = g; number = n }

-- the first entries of a work buffer as a stack, the last of them on top
abbrev pub stack : ℕ → List Due → List Due
stack zero work = []
stack (suc n) work = slice_index_or work n (due 0 0) ∷ stack n work

-- how many goals are due at a child's place
abbrev pub places : Option ℕ → ℕ
places None = 0
places (Some g) = 1

-- what is due, with its number, on top of a stack
abbrev pub push : Option ℕ → ℕ → List Due → List Due
push None n s = s
push (Some g) n s = due g n ∷ s

-- the children of an alternative, with their numbers, on top of a stack: the left one comes first
abbrev pub children : Alternative → ℕ → ℕ → List Due → List Due
children a x y s = push (left_due a) x (push (right_due a) y s)

-- a work buffer as a stack: the goals due, the next one first, and how many it holds
pub record Pile : Type 0 where
  pub dues : List Due
  pub room : ℕ

-- the goals due before one of them was taken off; where there was none, none is left
abbrev pub popped : Option Due → List Due → List Due
popped None s = []
popped (Some d) s = d ∷ s
