-- The laws of a space are facts of one proof, so that a type may hold them.
use Rattle.std.specs.Prelude.{ℕ, List, [], ◌∷◌, ◌≢◌}
use std.HLevel.{¬_prop}
use Rattle.std.specs.Coded.{Coded-set, coded_list, coded_ℕ, le_prop, ×_prop, Π_prop, Unit-prop}
use Rattle.std.specs.List.{AllByRecursion}
use Rattle.spaces.specs.declared.space.Alternative.{Alternative}
use Rattle.spaces.specs.contracts.space.Alternative.{the_row}
use Rattle.spaces.specs.Spaces.{Apart, Lawful, Meaning, Sound}

all_prop : {X : Type 0} (P : X → Type 0) → ((x : X) → IsProp (P x)) → (xs : List X) → IsProp (AllByRecursion P xs)
all_prop P h [] = Unit-prop
all_prop P h (x ∷ xs) = ×_prop (h x) (all_prop P h xs)

apart_prop : {X : Type 0} (xs : List X) → IsProp (Apart xs)
apart_prop [] = Unit-prop
apart_prop (x ∷ xs) = ×_prop (all_prop (λ y. x ≢ y) (λ y. ¬_prop) xs) (apart_prop xs)

sound_prop : (g : ℕ) (a : Alternative) → IsProp (Sound g a)
sound_prop g a = λ p q i. record {
  left_below = Π_prop (λ _. le_prop) p.left_below q.left_below i;
  left_unused = Π_prop (λ _. Coded-set coded_ℕ _ _) p.left_unused q.left_unused i;
  right_below = Π_prop (λ _. le_prop) p.right_below q.right_below i;
  right_unused = Π_prop (λ _. Coded-set coded_ℕ _ _) p.right_unused q.right_unused i;
  tag_fits = le_prop p.tag_fits q.tag_fits i;
}

pub lawful_prop : (m : Meaning) → IsProp (Lawful m)
lawful_prop m = λ p q i. record {
  few = le_prop p.few q.few i;
  root_below = Π_prop (λ _. le_prop) p.root_below q.root_below i;
  root_none = Π_prop (λ _. Coded-set coded_ℕ _ _) p.root_none q.root_none i;
  outside = Π_prop (λ g. Π_prop (λ _. Coded-set (coded_list the_row.coded) _ _)) p.outside q.outside i;
  narrow = Π_prop (λ g. le_prop) p.narrow q.narrow i;
  sound = Π_prop (λ g. all_prop (Sound g) (sound_prop g) (m.lists g)) p.sound q.sound i;
  distinct = Π_prop (λ g. apart_prop (m.lists g)) p.distinct q.distinct i;
}
