-- Loops that fill a list with the elements of another, one by one, and a loop that changes each element of a list.
use Rattle.std.proofs.Common.{◌≡◌, ℕ, ◌+◌, List, [], ◌∷◌, ◌++◌, map, length, take, drop, Some, sym, ap, ◌∙◌}
use Rattle.std.specs.List.{AllByRecursion, slice_get}
use Rattle.std.proofs.lemmas.List.{take_more}
use Rattle.std.proofs.lemmas.Option.{get_or_from_slice_get}
use Rattle.spaces.specs.Places.{some_below}

-- the first i elements of xs stand in `now`, and the next one is appended
pub filled_more : {X : Type 0} (xs now new : List X) (i : ℕ) (a : X) → now ≡ take i xs → slice_get xs i ≡ Some a → new ≡ now ++ (a ∷ []) → new ≡ take (i + 1) xs
filled_more xs now new i a s e n =
    n
    ∙ ap (λ ys. ys ++ (a ∷ [])) s
    ∙ ap (λ y. take i xs ++ (y ∷ [])) (sym (get_or_from_slice_get xs i a a e))
    ∙ sym (take_more xs i a (some_below xs i a e))

-- The first `at` places of a list of n are as f makes them; with f of the others, which P holds of, they come to `whole`.
pub record Changing {X : Type 0} (P : X → Type 0) (f : X → X) (whole now : List X) (n at : ℕ) : Type 0 where
  pub long : length now ≡ n
  pub left : AllByRecursion P (drop at now)
  pub same : take at now ++ map f (drop at now) ≡ whole
