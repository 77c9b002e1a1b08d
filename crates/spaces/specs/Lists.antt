-- Lists read by places (`nth`); `All`, `Apart` and lengths of lists that are kept, mapped or longer by one.
use Rattle.std.specs.Prelude.{◌≡◌, ℕ, zero, suc, ◌<◌, ◌≤◌, Bool, true, false, cond, List, [], ◌∷◌, ◌++◌, map, length, Some, None, filter, ◌≢◌, refl}
use Rattle.std.proofs.Common.{ap, sym, zero-le, arith, length-append}
use Rattle.std.specs.List.{AllByRecursion, slice_get}
use Rattle.std.proofs.ByRecursion.{all_kept_by, All-map, All-push, All-weaker}
use Rattle.std.proofs.lemmas.Option.{slice_get_past}
use Rattle.spaces.specs.Spaces.{Apart}
use Rattle.spaces.specs.Places.{none_some}

-- ---- places

pub nth_map_some : {X Y : Type 0} (f : X → Y) (xs : List X) (i : ℕ) (a : X) → slice_get xs i ≡ Some a → slice_get (map f xs) i ≡ Some (f a)
nth_map_some f [] i a e = none_some e
nth_map_some f (x ∷ xs) zero a e = let s : x ≡ a = cc in ap (λ y. Some (f y)) s
nth_map_some f (x ∷ xs) (suc i) a e = nth_map_some f xs i a e

pub nth_map_none : {X Y : Type 0} (f : X → Y) (xs : List X) (i : ℕ) → slice_get xs i ≡ None → slice_get (map f xs) i ≡ None
nth_map_none f [] i e = refl
nth_map_none f (x ∷ xs) zero e = none_some (sym e)
nth_map_none f (x ∷ xs) (suc i) e = nth_map_none f xs i e

pub nth_front : {X : Type 0} (xs ys : List X) (i : ℕ) (a : X) → slice_get xs i ≡ Some a → slice_get (xs ++ ys) i ≡ Some a
nth_front [] ys i a e = none_some e
nth_front (x ∷ xs) ys zero a e = e
nth_front (x ∷ xs) ys (suc i) a e = nth_front xs ys i a e

pub nth_last : {X : Type 0} (xs : List X) (y : X) → slice_get (xs ++ (y ∷ [])) (length xs) ≡ Some y
nth_last [] y = refl
nth_last (x ∷ xs) y = nth_last xs y

pub nth_over : {X : Type 0} (xs : List X) (y : X) (i : ℕ) → length xs < i → slice_get (xs ++ (y ∷ [])) i ≡ None
nth_over xs y i h = slice_get_past (xs ++ (y ∷ [])) i (omega (arith, length-append xs (y ∷ [])))

-- ---- lengths

pub kept_shorter : {X : Type 0} (p : X → Bool) (xs : List X) → length (filter p xs) ≤ length xs
kept_shorter p [] = zero-le
kept_shorter p (x ∷ xs) =
    let ih = kept_shorter p xs in
    elim (p x) as (λ b. length (cond b (x ∷ filter p xs) (filter p xs)) ≤ suc (length xs)) [ true ↦ omega arith | false ↦ omega arith ]

-- ---- no two equal

pub apart_kept : {X : Type 0} (p : X → Bool) (xs : List X) → Apart xs → Apart (filter p xs)
apart_kept p [] h = tt
apart_kept p (x ∷ xs) h =
    let ih = apart_kept p xs h.1 in
    elim (p x) as (λ b. Apart (cond b (x ∷ filter p xs) (filter p xs)))
    [ true ↦ (all_kept_by p (λ y. x ≢ y) xs h.0, ih) | false ↦ ih ]

pub apart_map : {X Y : Type 0} (f : X → Y) → ((x y : X) → f x ≡ f y → x ≡ y) → (xs : List X) → Apart xs → Apart (map f xs)
apart_map f inj [] h = tt
apart_map f inj (x ∷ xs) h =
    (All-map (λ z. f x ≢ z) f xs (All-weaker (λ y. x ≢ y) (λ y. f x ≢ f y) (λ y ne e. ne (inj x y e)) xs h.0), apart_map f inj xs h.1)

pub apart_push : {X : Type 0} (xs : List X) (y : X) → Apart xs → AllByRecursion (λ x. x ≢ y) xs → Apart (xs ++ (y ∷ []))
apart_push [] y h n = (tt, tt)
apart_push (x ∷ xs) y h n = (All-push (λ z. x ≢ z) xs y h.0 n.0, apart_push xs y h.1 n.1)
