-- The steps by which the lists of a memo grow, and that what was read is a space.
use Rattle.std.proofs.Common.{◌≡◌, ℕ, ◌≤◌, List, [], ◌∷◌, ◌++◌, sym, refl, ap, ◌∙◌, subst, inl, inr, append-nil, arith}
use Rattle.std.specs.List.{AllByRecursion}
use Rattle.std.proofs.lemmas.Bool.{cases_eq, ne_eqb}
use Rattle.spaces.specs.declared.space.Alternative.{Alternative}
use Rattle.spaces.specs.Spaces.{Lawful, Sound}
use Rattle.memos.specs.declared.fields.Record.{Record}
use Rattle.memos.specs.Memos.{Contents, Fitting, WellFormed, listing, space_of}
use Rattle.memos.specs.Opens.{Built, Stored}
use Rattle.memos.proofs.Listings.{listing_append, listing_own, listing_other, listing_short}

pub built_store : (sofar : List Record) (old new : ℕ → List Alternative) (r : Record) → Built sofar old → Stored old new r → Built (sofar ++ (r ∷ [])) new
built_store sofar old new r b s g =
    elim (cases_eq r.goal g) [
      | inl e ↦ subst (λ k. new k ≡ listing (sofar ++ (r ∷ [])) k) e
          (s.own ∙ ap (λ xs. xs ++ (r.alternative ∷ [])) (b r.goal) ∙ sym (listing_append sofar (r ∷ []) r.goal ∙ ap (λ ys. listing sofar r.goal ++ ys) (listing_own r [])))
      | inr ne ↦ s.others g ne ∙ b g ∙ sym (listing_append sofar (r ∷ []) g ∙ ap (λ ys. listing sofar g ++ ys) (listing_other r [] g (ne_eqb r.goal g ne)) ∙ append-nil (listing sofar g))
    ]

-- what has been read fits, goal by goal
listing_fit : (goals : ℕ) (rs : List Record) → AllByRecursion (Fitting goals) rs → (g : ℕ) → AllByRecursion (Sound g) (listing rs g)
listing_fit goals [] h g = tt
listing_fit goals (r ∷ rs) h g =
    elim (cases_eq r.goal g) [
      | inl e ↦ subst (λ k. AllByRecursion (Sound k) (listing (r ∷ rs) k)) e (subst (AllByRecursion (Sound r.goal)) (sym (listing_own r rs)) (h.0.sound, listing_fit goals rs h.1 r.goal))
      | inr ne ↦ subst (AllByRecursion (Sound g)) (sym (listing_other r rs g (ne_eqb r.goal g ne))) (listing_fit goals rs h.1 g)
    ]

-- no record is for a goal past the last
listing_none : (goals : ℕ) (rs : List Record) → AllByRecursion (Fitting goals) rs → (g : ℕ) → goals ≤ g → listing rs g ≡ []
listing_none goals [] h g out = refl
listing_none goals (r ∷ rs) h g out =
    listing_other r rs g (ne_eqb r.goal g (λ e. omega (arith, h.0.within))) ∙ listing_none goals rs h.1 g out

-- a memo that keeps the rules is a space
pub memo_lawful : (m : Contents) → WellFormed m → Lawful (space_of m)
memo_lawful m w = record {
  few = w.few;
  root_below = λ _. w.root_within;
  root_none = λ none. absurd (omega (arith, w.some));
  outside = listing_none m.goals m.records w.fitting;
  narrow = λ g. omega (arith, listing_short m.records g, w.narrow);
  sound = listing_fit m.goals m.records w.fitting;
  distinct = w.apart;
}
