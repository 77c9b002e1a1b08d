-- The alternatives of a bushy goal are all of one kind, so a filter keeps all of them or none.
use Rattle.std.proofs.Common.{◌≡◌, ℕ, ◌-◌, ◌^◌, Bool, true, false, cond, List, [], ◌∷◌, map, ◌==◌, refl, ap, ◌∙◌}
use Rattle.std.specs.Prelude.{count_ones, filter, nat_lt}
use Rattle.std.specs.List.{range_with_len}
use Rattle.std.proofs.lemmas.Bool.{cond-false, cond-true}
use Rattle.spaces.specs.declared.kind.Kind.{Kind}
use Rattle.spaces.specs.declared.kind.Kind.TheVariants.{Scan}
use Rattle.spaces.specs.Bushes.{bushes, scan, split}
use Rattle.spaces.specs.Masks.{holds, passes}

module _ {X Y : Type 0} (p : Y → Bool) (f : X → Y) where
  filter_all : ((x : X) → p (f x) ≡ true) → (xs : List X) → filter p (map f xs) ≡ map f xs
  filter_all h [] = refl
  filter_all h (x ∷ xs) = cond-true (p (f x)) (f x ∷ filter p (map f xs)) (filter p (map f xs)) (h x) ∙ ap (λ ys. f x ∷ ys) (filter_all h xs)

  filter_none : ((x : X) → p (f x) ≡ false) → (xs : List X) → filter p (map f xs) ≡ []
  filter_none h [] = refl
  filter_none h (x ∷ xs) = cond-false (p (f x)) (f x ∷ filter p (map f xs)) (filter p (map f xs)) (h x) ∙ filter_none h xs

module _ (n : ℕ) (join : Kind) (g bits : ℕ) where
  pub kept_all : holds bits (cond (count_ones g == 1) Scan join) ≡ true → filter (passes bits) ((bushes n join).lists g) ≡ (bushes n join).lists g
  kept_all = by (nat_lt g (2 ^ n)) (count_ones g == 1) (range_with_len 0 (2 ^ count_ones g - 2))
    where
      by : (i o : Bool) (js : List ℕ) → holds bits (cond o Scan join) ≡ true → filter (passes bits) (cond i (cond o (scan g ∷ []) (map (split join g) js)) []) ≡ cond i (cond o (scan g ∷ []) (map (split join g) js)) []
      by false o js h = refl
      by true true js h = cond-true (holds bits Scan) (scan g ∷ []) [] h
      by true false js h = filter_all (passes bits) (split join g) (λ j. h) js

  pub kept_none : holds bits (cond (count_ones g == 1) Scan join) ≡ false → filter (passes bits) ((bushes n join).lists g) ≡ []
  kept_none = by (nat_lt g (2 ^ n)) (count_ones g == 1) (range_with_len 0 (2 ^ count_ones g - 2))
    where
      by : (i o : Bool) (js : List ℕ) → holds bits (cond o Scan join) ≡ false → filter (passes bits) (cond i (cond o (scan g ∷ []) (map (split join g) js)) []) ≡ []
      by false o js h = refl
      by true true js h = cond-false (holds bits Scan) (scan g ∷ []) [] h
      by true false js h = filter_none (passes bits) (split join g) (λ j. h) js
