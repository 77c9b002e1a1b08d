-- Trees of one goal with equal lists are equal.
use mathlib.Core.HLevel.{hedberg, is_prop→PathP}
use Rattle.std.proofs.Common.{◌≡◌, ℕ, zero, suc, List, [], ◌∷◌, get_or, Some, None, Option, sym, refl, ap, ◌∙◌}
use mathlib.Core.List.{List-discrete}
use mathlib.Core.Path.{PathP, path_j}
use native.Mathlib.Decide.{map_dec, ℕ_discrete}
use Rattle.std.specs.List.{slice_get}
use Rattle.spaces.specs.declared.kind.Kind.{Kind}
use Rattle.spaces.specs.declared.kind.Kind.TheVariants.{Filter, HashJoin, IndexScan, MergeJoin, NestedLoops, Scan, Sort}
use Rattle.spaces.specs.declared.space.Alternative.{Alternative}
use Rattle.spaces.specs.Kinds.{code}
use Rattle.spaces.specs.Spaces.{Lawful, Meaning}
use Rattle.spaces.specs.Places.{apart_nth}
use Rattle.numbering.specs.declared.node.Node.{Node}
use Rattle.numbering.specs.Plans.{Tree, left_due, node, nodes, none, right_due}
use Rattle.numbering.proofs.Trees.{head_same, parse, tail_same}

-- ---- alternatives as lists of numbers: their equality is decidable, so it has one proof

abbrev kind_of : ℕ → Kind
kind_of zero = Scan
kind_of (suc zero) = IndexScan
kind_of (suc (suc zero)) = HashJoin
kind_of (suc (suc (suc zero))) = MergeJoin
kind_of (suc (suc (suc (suc zero)))) = NestedLoops
kind_of (suc (suc (suc (suc (suc zero))))) = Filter
kind_of (suc (suc (suc (suc (suc (suc n)))))) = Sort

kind_code : (k : Kind) → kind_of (code k) ≡ k
kind_code Scan = refl
kind_code IndexScan = refl
kind_code HashJoin = refl
kind_code MergeJoin = refl
kind_code NestedLoops = refl
kind_code Filter = refl
kind_code Sort = refl

abbrev encode : Option Alternative → List ℕ
encode None = []
encode (Some a) = code a.kind ∷ (a.tag ∷ (a.left ∷ (a.right ∷ [])))

abbrev decode : List ℕ → Option Alternative
decode [] = None
decode (k ∷ xs) = Some (record { kind = kind_of k; tag = get_or xs 0 0; left = get_or xs 1 0; right = get_or xs 2 0 })

there_back : (o : Option Alternative) → decode (encode o) ≡ o
there_back None = refl
there_back (Some a) = ap (λ (k : Kind). Some (record { kind = k; tag = a.tag; left = a.left; right = a.right })) (kind_code a.kind)

option_set : IsSet (Option Alternative)
option_set = hedberg (λ x y. map_dec (λ e. sym (there_back x) ∙ ap decode e ∙ there_back y) (ap encode) (List-discrete ℕ_discrete (encode x) (encode y)))

-- ---- trees

-- along a ≡ b, a tree that equals each tree of its place with its list
lift : {m : Meaning} (D : Alternative → Option ℕ) {a b : Alternative} (q : a ≡ b) (l : Tree m (D a)) → ((s : Tree m (D a)) → nodes l ≡ nodes s → l ≡ s)
    → (s : Tree m (D b)) → nodes l ≡ nodes s → PathP (λ k. Tree m (D (q k))) l s
lift {m} D {a} q l same = path_j (λ b q. (s : Tree m (D b)) → nodes l ≡ nodes s → PathP (λ k. Tree m (D (q k))) l s) same q

module _ (m : Meaning) (law : Lawful m) where
  pub same_tree : {o : Option ℕ} (t s : Tree m o) → nodes t ≡ nodes s → t ≡ s
  same_tree none none e = refl
  same_tree (node {g} i a h l r) (node i' a' h' l' r') e =
      let a= : a ≡ a' = ap (λ (n : Node). n.alternative) (head_same e) in
      let k : slice_get (m.lists g) i' ≡ Some a = cc in
      let i= : i ≡ i' = apart_nth (m.lists g) i i' a (law.distinct g) h k in
      let p = parse m law l l' (nodes r) (nodes r') (ap left_due a=) (tail_same e) in
      let pl = lift left_due a= l (λ s. same_tree l s) l' p.0 in
      let pr = lift right_due a= r (λ s. same_tree r s) r' p.2 in
      let ph = is_prop→PathP (λ k. slice_get (m.lists g) (i= k) ≡ Some (a= k)) (λ k. option_set _ _) h h' in
      λ k. node {g = g} (i= k) (a= k) (ph k) (pl k) (pr k)
