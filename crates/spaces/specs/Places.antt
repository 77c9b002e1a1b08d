-- Places in a list: what is found there, `All` and `Apart` read by places, what is ahead of a place, and the turns of a loop over a list.
use Rattle.std.specs.Prelude.{◌≡◌, ℕ, zero, suc, ◌+◌, ◌<◌, ◌≤◌, List, [], ◌∷◌, ◌++◌, length, drop, Some, None, Option, ◌≢◌, refl}
use Rattle.std.proofs.Common.{ap, subst, sym, ◌∙◌, suc-le-suc, zero-le, add-one, append_assoc, append-nil, arith}
use Rattle.std.specs.List.{AllByRecursion, slice_get}
use Rattle.spaces.specs.Spaces.{Apart}

pub none_some : {A : Type 0} {x : A} {R : Type 0} → ◌≡◌ {A = Option A} None (Some x) → R
none_some e = let z : ◌≡◌ {A = ℕ} 0 1 = cc in absurd (omega arith)

pub some_inj : {A : Type 0} {x y : A} → ◌≡◌ {A = Option A} (Some x) (Some y) → x ≡ y
some_inj e = cc

pub some_below : {X : Type 0} (xs : List X) (i : ℕ) (a : X) → slice_get xs i ≡ Some a → i < length xs
some_below [] i a e = none_some e
some_below (x ∷ xs) zero a e = suc-le-suc zero-le
some_below (x ∷ xs) (suc i) a e = suc-le-suc (some_below xs i a e)

pub none_past : {X : Type 0} (xs : List X) (i : ℕ) → slice_get xs i ≡ None → length xs ≤ i
none_past [] i e = zero-le
none_past (x ∷ xs) zero e = none_some (sym e)
none_past (x ∷ xs) (suc i) e = suc-le-suc (none_past xs i e)

pub drop_some : {X : Type 0} (xs : List X) (i : ℕ) (a : X) → slice_get xs i ≡ Some a → drop i xs ≡ a ∷ drop (i + 1) xs
drop_some [] i a e = none_some e
drop_some (x ∷ xs) zero a e = ap (λ y. y ∷ xs) (some_inj e)
drop_some (x ∷ xs) (suc i) a e = rw (add-one (suc i)) (rw add-one at (drop_some xs i a e))

pub drop_none : {X : Type 0} (xs : List X) (i : ℕ) → slice_get xs i ≡ None → drop i xs ≡ []
drop_none [] zero e = refl
drop_none [] (suc i) e = refl
drop_none (x ∷ xs) zero e = none_some (sym e)
drop_none (x ∷ xs) (suc i) e = drop_none xs i e

pub all_nth : {X : Type 0} (P : X → Type 0) (xs : List X) (i : ℕ) (a : X) → AllByRecursion P xs → slice_get xs i ≡ Some a → P a
all_nth P [] i a h e = none_some e
all_nth P (x ∷ xs) zero a h e = subst P (some_inj e) h.0
all_nth P (x ∷ xs) (suc i) a h e = all_nth P xs i a h.1 e

pub apart_nth : {X : Type 0} (xs : List X) (i j : ℕ) (a : X) → Apart xs → slice_get xs i ≡ Some a → slice_get xs j ≡ Some a → i ≡ j
apart_nth [] i j a h p q = none_some p
apart_nth (x ∷ xs) zero zero a h p q = refl
apart_nth (x ∷ xs) zero (suc j) a h p q = absurd (all_nth (λ y. x ≢ y) xs j a h.0 q (some_inj p))
apart_nth (x ∷ xs) (suc i) zero a h p q = absurd (all_nth (λ y. x ≢ y) xs i a h.0 p (some_inj q))
apart_nth (x ∷ xs) (suc i) (suc j) a h p q = ap suc (apart_nth xs i j a h.1 p q)

pub nth_seam : {X : Type 0} (passed ahead : List X) (x : X) → slice_get (passed ++ (x ∷ ahead)) (length passed) ≡ Some x
nth_seam [] ahead x = refl
nth_seam (y ∷ passed) ahead x = nth_seam passed ahead x

-- ---- turns of a loop: what was passed, and what was ahead, are the list

pub turn_at : {X : Type 0} (xs passed before ahead : List X) (x : X) → passed ++ before ≡ xs → before ≡ x ∷ ahead → slice_get xs (length passed) ≡ Some x
turn_at xs passed before ahead x whole next = ap (λ ys. slice_get ys (length passed)) (sym whole ∙ ap (λ ys. passed ++ ys) next) ∙ nth_seam passed ahead x

pub went : {X : Type 0} (xs passed before ahead : List X) (x : X) → passed ++ before ≡ xs → before ≡ x ∷ ahead → (passed ++ (x ∷ [])) ++ ahead ≡ xs
went xs passed before ahead x whole next = append_assoc passed (x ∷ []) ahead ∙ sym (ap (λ ys. passed ++ ys) next) ∙ whole

pub all_passed : {X : Type 0} (xs passed before : List X) → passed ++ before ≡ xs → before ≡ [] → passed ≡ xs
all_passed xs passed before whole none = sym (append-nil passed) ∙ ap (λ ys. passed ++ ys) (sym none) ∙ whole
