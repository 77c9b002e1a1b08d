-- The alternatives of a goal, with one more record.
use Rattle.std.proofs.Common.{◌≡◌, ℕ, suc, ◌≤◌, Bool, true, false, cond, eqb, List, [], ◌∷◌, ◌++◌, map, length, filter, sym, refl, ap, ◌∙◌, subst, append-nil, suc-le-suc, zero-le, arith}
use Rattle.std.specs.List.{AllByRecursion}
use Rattle.std.proofs.lemmas.Bool.{eqb-true, eq-eqb}
use Rattle.std.proofs.lemmas.List.{map-append}
use Rattle.std.proofs.lemmas.List.Elements.{filter-append}
use Rattle.spaces.specs.Lists.{apart_push}
use Rattle.spaces.specs.Spaces.{Apart}
use Rattle.memos.specs.declared.fields.Record.{Record}
use Rattle.memos.specs.Memos.{listing}

pub listing_append : (xs ys : List Record) (g : ℕ) → listing (xs ++ ys) g ≡ listing xs g ++ listing ys g
listing_append xs ys g =
    ap (map (λ r. r.alternative)) (filter-append (λ r. eqb r.goal g) xs ys) ∙ map-append (λ r. r.alternative) (filter (λ r. eqb r.goal g) xs) (filter (λ r. eqb r.goal g) ys)

pub listing_own : (r : Record) (rs : List Record) → listing (r ∷ rs) r.goal ≡ r.alternative ∷ listing rs r.goal
listing_own r rs =
    ap (λ t. map (λ r. r.alternative) (cond t (r ∷ filter (λ x. eqb x.goal r.goal) rs) (filter (λ x. eqb x.goal r.goal) rs))) (eq-eqb r.goal r.goal refl)

pub listing_other : (r : Record) (rs : List Record) (g : ℕ) → eqb r.goal g ≡ false → listing (r ∷ rs) g ≡ listing rs g
listing_other r rs g e = ap (λ t. map (λ r. r.alternative) (cond t (r ∷ filter (λ x. eqb x.goal g) rs) (filter (λ x. eqb x.goal g) rs))) e

pub apart_more : (sofar : List Record) (r : Record) → ((g : ℕ) → Apart (listing sofar g)) → AllByRecursion (λ x. x ≡ r.alternative → ⊥) (listing sofar r.goal) → (g : ℕ) → Apart (listing (sofar ++ (r ∷ [])) g)
apart_more sofar r h new g =
    let P : Bool → Type 0 = λ t. eqb r.goal g ≡ t → Apart (listing (sofar ++ (r ∷ [])) g) in
    let q : P (eqb r.goal g) = elim (eqb r.goal g) as P [
      | true ↦ (λ e. let s : r.goal ≡ g = eqb-true r.goal g e in
          subst (λ k. Apart (listing (sofar ++ (r ∷ [])) k)) s (subst Apart (sym (listing_append sofar (r ∷ []) r.goal ∙ ap (λ ys. listing sofar r.goal ++ ys) (listing_own r []))) (apart_push (listing sofar r.goal) r.alternative (h r.goal) new)))
      | false ↦ (λ e. subst Apart (sym (listing_append sofar (r ∷ []) g ∙ ap (λ ys. listing sofar g ++ ys) (listing_other r [] g e) ∙ append-nil (listing sofar g))) (h g))
    ] in
    q refl

apart_middle : {X : Type 0} (xs : List X) (y : X) (ys : List X) → Apart (xs ++ (y ∷ ys)) → AllByRecursion (λ x. x ≡ y → ⊥) xs
apart_middle [] y ys h = tt
apart_middle {X} (x ∷ xs) y ys h = (all_here xs h.0, apart_middle xs y ys h.1)
  where
    all_here : (zs : List X) → AllByRecursion (λ z. x ≡ z → ⊥) (zs ++ (y ∷ ys)) → x ≡ y → ⊥
    all_here [] k = k.0
    all_here (z ∷ zs) k = all_here zs k.1

pub new_from_apart : (sofar : List Record) (r : Record) (rs : List Record) → Apart (listing (sofar ++ (r ∷ rs)) r.goal) → AllByRecursion (λ x. x ≡ r.alternative → ⊥) (listing sofar r.goal)
new_from_apart sofar r rs h =
    apart_middle (listing sofar r.goal) r.alternative (listing rs r.goal) (subst Apart (listing_append sofar (r ∷ rs) r.goal ∙ ap (λ ys. listing sofar r.goal ++ ys) (listing_own r rs)) h)

pub listing_short : (rs : List Record) (g : ℕ) → length (listing rs g) ≤ length rs
listing_short [] g = zero-le
listing_short (r ∷ rs) g =
    let ih = listing_short rs g in
    elim (eqb r.goal g) as (λ t. length (map (λ r. r.alternative) (cond t (r ∷ filter (λ x. eqb x.goal g) rs) (filter (λ x. eqb x.goal g) rs))) ≤ suc (length rs)) [ true ↦ suc-le-suc ih | false ↦ omega arith ]
