-- The plans along the walk: each step's list is that of a complete plan, and different numbers have different lists.
use Rattle.std.proofs.Common.{◌≡◌, ℕ, ◌<◌, ◌≤◌, List, [], ◌++◌, length, take, drop, sym, refl, ap, ◌∙◌, subst, ap₂, arith}
use Rattle.std.proofs.lemmas.List.{take_at}
use Rattle.spaces.specs.Spaces.{Lawful, Meaning}
use Rattle.numbering.specs.declared.node.Node.{Node}
use Rattle.numbering.specs.Listings.{listing}
use Rattle.numbering.specs.Numbers.{Numbers}
use Rattle.numbering.specs.Plans.{Complete}
use Rattle.numbering.specs.Refusals.{largest, plans}
use Rattle.numbering.specs.Standing.{Written}
use Rattle.numbering.proofs.Listings.{listed, listing_of}
use Rattle.numbering.proofs.Sizes.{length_most}
use Rattle.numbering.proofs.Trees.{parse}
use Rattle.campaigns.specs.Calls.{over}

-- the list that a draw left in the plan buffer
pub drawn_list : (m : Meaning) (x len : ℕ) (old new : List Node) → len ≡ length (listing m x) → new ≡ over (listing m x) old → take len new ≡ listing m x
drawn_list m x len old new long is = ap (take len) is ∙ take_at (listing m x) (drop (length (listing m x)) old) len (sym long)

module _ (m : Meaning) (law : Lawful m) where
  pub listing_numbers : (x : ℕ) → x < plans m → Numbers m (listing m x) x
  listing_numbers x lt = let l = listed m law x lt in (l.tree, l.list_is, l.numbered)

  pub listing_complete : (x : ℕ) → x < plans m → Complete m (listing m x)
  listing_complete x lt = let l = listed m law x lt in (l.tree, l.list_is)

  pub same_listing : (x y : ℕ) → x < plans m → y < plans m → listing m x ≡ listing m y → x ≡ y
  same_listing x y hx hy e =
      let a = listed m law x hx in
      let b = listed m law y hy in
      let p = parse m law a.tree b.tree [] [] refl (ap (λ l. l ++ []) (a.list_is ∙ e ∙ sym b.list_is)) in
      sym a.numbered ∙ p.1 ∙ b.numbered

  -- the list of a plan with the number x is the listing of x
  pub only_listing : (list : List Node) (x : ℕ) → Numbers m list x → list ≡ listing m x
  only_listing list x n = sym n.1 ∙ sym (listing_of m law n.0) ∙ ap (listing m) n.2

  pub listing_most : (x : ℕ) → x < plans m → length (listing m x) ≤ largest m
  listing_most x lt = let l = listed m law x lt in subst (λ list. length list ≤ largest m) l.list_is (length_most m law l.tree)

  pub numbered_most : (list : List Node) (x : ℕ) → Numbers m list x → length (listing m x) ≤ largest m
  numbered_most list x n = omega (arith, length_most m law n.0, ap length n.1, ap length (only_listing list x n))

  -- what writing the plan x into a buffer says in terms of its listing
  pub written : (x len : ℕ) (old new : List Node) → x < plans m → Written m x len old new
      → (len ≡ length (listing m x)) × (len ≤ largest m) × (take len new ≡ listing m x) × (new ≡ over (listing m x) old)
  written x len old new lt w =
      let is = only_listing w.list x w.numbers in
      let long : len ≡ length (listing m x) = w.long ∙ ap length is in
      let laid : new ≡ over (listing m x) old = w.buffer ∙ ap₂ (λ l n. l ++ drop n old) is long in
      (long, omega (arith, long, listing_most x lt), drawn_list m x len old new long laid, laid)
