-- The listing of a number is the list of the one plan that has it.
use Rattle.std.proofs.Common.{◌≡◌, ℕ, zero, suc, ◌+◌, ◌-◌, ◌*◌, ◌/◌, ◌%◌, ◌<◌, ltb, List, [], ◌∷◌, ◌++◌, take, Some, Option, sym, refl, ap, ◌∙◌, ap₂, arith}
use Rattle.std.proofs.lemmas.Nat.{div-mul-add, mod-mul-add}
use Rattle.std.proofs.lemmas.Bool.{cond-false, cond-true, le-ltb, lt-ltb}
use Rattle.std.specs.List.{slice_get}
use Rattle.spaces.specs.Places.{none_some, some_inj}
use Rattle.spaces.specs.declared.space.Alternative.{Alternative}
use Rattle.spaces.specs.Spaces.{Lawful, Meaning}
use Rattle.numbering.specs.declared.node.Node.{Node}
use Rattle.numbering.specs.Listings.{grown, listed_to, listing, pick}
use Rattle.numbering.specs.Plans.{Tree, all_ways, count, left_due, node, nodes, none, number, right_due, ways}
use Rattle.numbering.proofs.Counts.{left_under, right_under}
use Rattle.numbering.proofs.Picks.{pair_below}
use Rattle.numbering.proofs.Trees.{make, number_below}

pick_at : (c : Option ℕ → ℕ) (xs : List Alternative) (i : ℕ) (a : Alternative) (x : ℕ) → slice_get xs i ≡ Some a → x < ways c a → pick c xs (all_ways c (take i xs) + x) ≡ Some (a, x)
pick_at c [] i a x e h = none_some e
pick_at c (b ∷ xs) zero a x e h =
    let b= : b ≡ a = some_inj e in
    let w= : ways c b ≡ ways c a = ap (ways c) b= in
    let x= : 0 + x ≡ x = omega arith in
    cond-true (ltb (0 + x) (ways c b)) _ _ (lt-ltb (0 + x) (ways c b) (omega arith)) ∙ cc
pick_at c (b ∷ xs) (suc i) a x e h =
    let rest : (ways c b + all_ways c (take i xs) + x) - ways c b ≡ all_ways c (take i xs) + x = omega arith in
    cond-false (ltb (ways c b + all_ways c (take i xs) + x) (ways c b)) _ _ (le-ltb (ways c b + all_ways c (take i xs) + x) (ways c b) (omega arith))
    ∙ ap (pick c xs) rest ∙ pick_at c xs i a x e h

module _ (m : Meaning) (law : Lawful m) where
  pub listed_tree : {o : Option ℕ} (t : Tree m o) (d : ℕ) → ((g : ℕ) → o ≡ Some g → g < d) → listed_to m d o (number t) ≡ nodes t
  listed_tree none d under = refl
  listed_tree (node {g} i a e l r) zero under = absurd (omega (arith, under g refl))
  listed_tree (node {g} i a e l r) (suc d) under =
      let cl = count m (left_due a) in
      let x = number l + cl * number r in
      let at = pick_at (count m) (m.lists g) i a x e (pair_below (number l) (number r) cl (count m (right_due a)) (number_below m law l) (number_below m law r)) in
      let x= : number r * cl + number l ≡ x = omega arith in
      let low : x % cl ≡ number l = ap (λ y. y % cl) (sym x=) ∙ mod-mul-add (number r) cl (number l) (number_below m law l) in
      let high : x / cl ≡ number r = ap (λ y. y / cl) (sym x=) ∙ div-mul-add (number r) cl (number l) (number_below m law l) in
      let nl = ap (listed_to m d (left_due a)) low ∙ listed_tree l d (λ k q. omega (arith, left_under m law g i a k e q, under g refl)) in
      let nr = ap (listed_to m d (right_due a)) high ∙ listed_tree r d (λ k q. omega (arith, right_under m law g i a k e q, under g refl)) in
      ap (grown (listed_to m d) (count m) g) at ∙ ap₂ (λ (p q : List Node). record { goal = g; alternative = a } ∷ (p ++ q)) nl nr

  -- a complete plan's list is the listing of its number
  pub listing_of : (t : Tree m (Some m.root)) → listing m (number t) ≡ nodes t
  unfolding listing
  listing_of t = listed_tree t (suc m.root) (λ g e. omega (arith, some_inj e))

  pub record Listed (x : ℕ) : Type 0 where
    pub tree : Tree m (Some m.root)
    pub numbered : number tree ≡ x
    pub list_is : nodes tree ≡ listing m x

  pub listed : (x : ℕ) → x < count m (Some m.root) → Listed x
  listed x h =
      let t = make m law (suc m.root) (Some m.root) x (λ g e. omega (arith, some_inj e)) h in
      record { tree = t.0; numbered = t.1; list_is = sym (listing_of t.0) ∙ ap (listing m) t.1 }
