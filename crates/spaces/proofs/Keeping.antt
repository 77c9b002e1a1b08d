-- Turns of a search for what passes a test.
use Rattle.std.proofs.Common.{◌≡◌, ◌+◌, Bool, true, false, cond, List, [], ◌∷◌, ◌++◌, length, filter, Some, sym, refl, ap, ◌∙◌, length-append}
use Rattle.std.proofs.lemmas.List.Elements.{filter-append}
use Rattle.std.specs.List.{slice_get}
use Rattle.spaces.specs.Places.{nth_seam}

module _ {X : Type 0} (p : X → Bool) (x : X) where
  -- what passes is found behind those that did
  pub kept_here : (xs passed before ahead : List X) → passed ++ before ≡ xs → before ≡ x ∷ ahead → p x ≡ true → slice_get (filter p xs) (length (filter p passed)) ≡ Some x
  kept_here xs passed before ahead whole next pass =
      let keeps : filter p (x ∷ ahead) ≡ x ∷ filter p ahead = ap (λ b. cond b (x ∷ filter p ahead) (filter p ahead)) pass in
      let parts : filter p xs ≡ filter p passed ++ (x ∷ filter p ahead) =
      ap (filter p) (sym whole ∙ ap (λ ys. passed ++ ys) next) ∙ filter-append p passed (x ∷ ahead) ∙ ap (λ ys. filter p passed ++ ys) keeps in
      ap (λ ys. slice_get ys (length (filter p passed))) parts ∙ nth_seam (filter p passed) (filter p ahead) x

  pub kept_more : (passed : List X) → length (filter p (passed ++ (x ∷ []))) ≡ length (filter p passed) + cond (p x) 1 0
  kept_more passed =
      let one : length (filter p (x ∷ [])) ≡ cond (p x) 1 0 = elim (p x) as (λ b. length (cond b (x ∷ []) []) ≡ cond b 1 0) [ true ↦ refl | false ↦ refl ] in
      ap length (filter-append p passed (x ∷ [])) ∙ length-append (filter p passed) (filter p (x ∷ [])) ∙ ap (λ n. length (filter p passed) + n) one
