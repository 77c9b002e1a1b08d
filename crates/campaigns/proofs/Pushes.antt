-- A list with one more element at its end.
use Rattle.std.proofs.Common.{◌≡◌, ℕ, zero, suc, ◌<◌, List, [], ◌∷◌, ◌++◌, length, Some, refl, arith}
use Rattle.std.proofs.ByRecursion.{All-push}
use Rattle.std.specs.List.{AllByRecursion, slice_get}
use Rattle.spaces.specs.Spaces.{Apart}

pub nth_old : {X : Type 0} (xs : List X) (y : X) (k : ℕ) → k < length xs → slice_get (xs ++ (y ∷ [])) k ≡ slice_get xs k
nth_old [] y k lt = absurd (omega arith)
nth_old (x ∷ xs) y zero lt = refl
nth_old (x ∷ xs) y (suc k) lt = nth_old xs y k (omega arith)

pub nth_new : {X : Type 0} (xs : List X) (y : X) → slice_get (xs ++ (y ∷ [])) (length xs) ≡ Some y
nth_new [] y = refl
nth_new (x ∷ xs) y = nth_new xs y

pub apart_push : {X : Type 0} (xs : List X) (x : X) → Apart xs → AllByRecursion (λ y. y ≡ x → ⊥) xs → Apart (xs ++ (x ∷ []))
apart_push [] x a h = (tt, tt)
apart_push (y ∷ xs) x a h = (All-push (λ z. y ≡ z → ⊥) xs x a.0 h.0, apart_push xs x a.1 h.1)
