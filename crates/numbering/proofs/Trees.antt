-- Trees and numbers, one to one.
use Rattle.std.proofs.Common.{◌≡◌, ℕ, zero, suc, ◌+◌, ◌*◌, ◌/◌, ◌%◌, ◌<◌, List, ◌∷◌, ◌++◌, take, Some, None, Option, sym, refl, ap, ◌∙◌, subst, append_assoc, zero-mul, arith}
use native.Mathlib.Nat.{mod-add-div}
use Rattle.std.proofs.lemmas.Nat.{div_below, mod_below}
use Rattle.spaces.specs.Spaces.{Meaning, Lawful}
use Rattle.std.specs.List.{slice_get}
use Rattle.numbering.specs.Plans.{left_due, right_due, all_ways, count, Tree, none, node, nodes, number}
use Rattle.numbering.specs.declared.node.Node.{Node}
use Rattle.spaces.specs.Places.{apart_nth, none_some, some_inj}
use Rattle.numbering.proofs.Counts.{count_goal, count_none, left_under, right_under}
use Rattle.numbering.proofs.Picks.{before_below, same_place, Place, place, pair_below, same_pair}

positive : (u v n : ℕ) → n < u * v → 0 < u
positive zero v n h = absurd (omega (arith, zero-mul v))
positive (suc u) v n h = omega arith

pub head_same : {A : Type 0} {x y : A} {xs ys : List A} → x ∷ xs ≡ y ∷ ys → x ≡ y
head_same e = cc

pub tail_same : {A : Type 0} {x y : A} {xs ys : List A} → x ∷ xs ≡ y ∷ ys → xs ≡ ys
tail_same e = cc

module _ (m : Meaning) (law : Lawful m) where
  pub number_below : {o : Option ℕ} (t : Tree m o) → number t < count m o
  number_below none = omega (arith, count_none m law)
  number_below (node {g} i a e l r) =
      omega (
        arith,
        count_goal m law g,
        before_below (count m) (m.lists g) i a e,
        pair_below (number l) (number r) (count m (left_due a)) (count m (right_due a)) (number_below l) (number_below r),
      )

  pub same_number : {o p : Option ℕ} (t : Tree m o) (s : Tree m p) → o ≡ p → number t ≡ number s → nodes t ≡ nodes s
  same_number none none q e = refl
  same_number none (node i a h l r) q e = none_some q
  same_number (node i a h l r) none q e = none_some (sym q)
  same_number (node {g} i a h l r) (node {g = g'} i' a' h' l' r') q e =
      let g= : g ≡ g' = some_inj q in
      let k : slice_get (m.lists g) i' ≡ Some a' = cc in
      let cl = count m (left_due a) in
      let off : all_ways (count m) (take i (m.lists g)) + (number l + cl * number r) ≡ all_ways (count m) (take i' (m.lists g)) + (number l' + count m (left_due a') * number r') = cc in
      let p = same_place (count m) (m.lists g) i i' a a' (number l + cl * number r) (number l' + count m (left_due a') * number r') h k
      (pair_below (number l) (number r) cl (count m (right_due a)) (number_below l) (number_below r))
      (pair_below (number l') (number r') (count m (left_due a')) (count m (right_due a')) (number_below l') (number_below r')) off in
      let a= : a ≡ a' = p.alternative in
      let c= : count m (left_due a') ≡ cl = ap (λ b. count m (left_due b)) (sym a=) in
      let s = same_pair (number l) (number r) (number l') (number r') cl (number_below l) (subst (λ n. number l' < n) c= (number_below l')) (p.rest ∙ ap (λ n. number l' + n * number r') c=) in
      let nl = same_number l l' (ap left_due a=) s.low in
      let nr = same_number r r' (ap right_due a=) s.high in
      cc

  pub parse : {o p : Option ℕ} (t : Tree m o) (s : Tree m p) (x y : List Node) → o ≡ p → nodes t ++ x ≡ nodes s ++ y → (nodes t ≡ nodes s) × (number t ≡ number s) × (x ≡ y)
  parse none none x y q e = (refl, refl, e)
  parse none (node i a h l r) x y q e = none_some q
  parse (node i a h l r) none x y q e = none_some (sym q)
  parse (node {g} i a h l r) (node {g = g'} i' a' h' l' r') x y q e =
      let g= : g ≡ g' = some_inj q in
      let a= : a ≡ a' = ap (λ (n : Node). n.alternative) (head_same e) in
      let k : slice_get (m.lists g) i' ≡ Some a = cc in
      let i= = apart_nth (m.lists g) i i' a (law.distinct g) h k in
      let rest = sym (append_assoc (nodes l) (nodes r) x) ∙ tail_same e ∙ append_assoc (nodes l') (nodes r') y in
      let pl = parse l l' (nodes r ++ x) (nodes r' ++ y) (ap left_due a=) rest in
      let pr = parse r r' x y (ap right_due a=) pl.2 in
      (cc (pl.0, pr.0), cc (pl.1, pr.1), pr.2)

  -- two trees for the children of the alternative at the place of n make a tree with the number n
  join : (g n : ℕ) (s : Place (count m) (m.lists g) n) (l : Tree m (left_due s.alternative)) (r : Tree m (right_due s.alternative))
      → number l ≡ s.rest % count m (left_due s.alternative) → number r ≡ s.rest / count m (left_due s.alternative) → (t : Tree m (Some g)) × (number t ≡ n)
  join g n s l r x y =
      let cl = count m (left_due s.alternative) in
      let whole = mod-add-div s.rest cl in
      let sum = s.sum in
      (node s.index s.alternative s.found l r, cc)

  pub make : (d : ℕ) (o : Option ℕ) (n : ℕ) → ((g : ℕ) → o ≡ Some g → g < d) → n < count m o → (t : Tree m o) × (number t ≡ n)
  make zero None n u h = (none, omega (arith, count_none m law))
  make zero (Some g) n u h = absurd (omega (arith, u g refl))
  make (suc d) None n u h = (none, omega (arith, count_none m law))
  make (suc d) (Some g) n u h =
      let s = place (count m) (m.lists g) n (omega (arith, count_goal m law g)) in
      let a = s.alternative in
      let cl = count m (left_due a) in
      let cr = count m (right_due a) in
      let pos : 0 < cl = positive cl cr s.rest s.within in
      let l = make d (left_due a) (s.rest % cl) (λ x e. omega (arith, left_under m law g s.index a x s.found e, u g refl)) (mod_below s.rest cl pos) in
      let r = make d (right_due a) (s.rest / cl) (λ x e. omega (arith, right_under m law g s.index a x s.found e, u g refl))
      (div_below s.rest cl cr pos (omega (arith, s.within))) in
      join g n s l.0 r.0 l.1 r.1
