-- Places in a sum over alternatives.
use Rattle.std.proofs.Common.{◌≡◌, ℕ, zero, suc, ◌+◌, ◌-◌, ◌*◌, ◌/◌, ◌%◌, ◌<◌, ◌≤◌, List, [], ◌∷◌, take, Some, Option, sym, refl, ap, ◌∙◌, arith}
use native.Mathlib.Decide.{dec_lt}
use Rattle.std.proofs.lemmas.Nat.{mul-add-lt, div-mul-add, mod-mul-add}
use Rattle.spaces.specs.declared.space.Alternative.{Alternative}
use Rattle.std.specs.List.{slice_get}
use Rattle.numbering.specs.Plans.{ways, all_ways}
use Rattle.spaces.specs.Places.{none_some, some_inj}

module _ (c : Option ℕ → ℕ) where
  pub before_below : (xs : List Alternative) (i : ℕ) (a : Alternative) → slice_get xs i ≡ Some a → all_ways c (take i xs) + ways c a ≤ all_ways c xs
  before_below [] i a e = none_some e
  before_below (x ∷ xs) zero a e = omega (arith, ap (ways c) (some_inj e))
  before_below (x ∷ xs) (suc i) a e = omega (arith, before_below xs i a e)

  pub record SamePlace (i j : ℕ) (a b : Alternative) (x y : ℕ) : Type 0 where
    pub index : i ≡ j
    pub alternative : a ≡ b
    pub rest : x ≡ y

  pub same_place : (xs : List Alternative) (i j : ℕ) (a b : Alternative) (x y : ℕ) → slice_get xs i ≡ Some a → slice_get xs j ≡ Some b → x < ways c a → y < ways c b → all_ways c (take i xs) + x ≡ all_ways c (take j xs) + y → SamePlace i j a b x y
  same_place [] i j a b x y p q h k e = none_some p
  same_place (z ∷ zs) zero zero a b x y p q h k e = record { index = refl; alternative = cc; rest = omega arith }
  same_place (z ∷ zs) zero (suc j) a b x y p q h k e = absurd (omega (arith, ap (ways c) (some_inj p)))
  same_place (z ∷ zs) (suc i) zero a b x y p q h k e = absurd (omega (arith, ap (ways c) (some_inj q)))
  same_place (z ∷ zs) (suc i) (suc j) a b x y p q h k e =
      let s = same_place zs i j a b x y p q h k (omega arith) in
      record { index = ap suc s.index; alternative = s.alternative; rest = s.rest }

  pub record Place (xs : List Alternative) (n : ℕ) : Type 0 where
    pub index : ℕ
    pub alternative : Alternative
    pub rest : ℕ
    pub found : slice_get xs index ≡ Some alternative
    pub within : rest < ways c alternative
    pub sum : all_ways c (take index xs) + rest ≡ n

  pub place : (xs : List Alternative) (n : ℕ) → n < all_ways c xs → Place xs n
  place [] n h = absurd (omega arith)
  place (x ∷ xs) n h = elim (dec_lt n (ways c x)) [
    | yes k ↦ record { index = 0; alternative = x; rest = n; found = refl; within = k; sum = omega arith }
    | no k ↦
        let s = place xs (n - ways c x) (omega arith) in
        record { index = suc s.index; alternative = s.alternative; rest = s.rest; found = s.found; within = s.within; sum = omega (arith, s.sum) }
  ]

-- a pair of numbers as one
pub pair_below : (x y u v : ℕ) → x < u → y < v → x + u * y < u * v
pair_below x y u v h k = omega (arith, mul-add-lt y u x v k h)

pub record SamePair (x y x' y' : ℕ) : Type 0 where
  pub low : x ≡ x'
  pub high : y ≡ y'

pub same_pair : (x y x' y' u : ℕ) → x < u → x' < u → x + u * y ≡ x' + u * y' → SamePair x y x' y'
same_pair x y x' y' u h k e =
    let s : y * u + x ≡ y' * u + x' = omega arith in
    record {
      low = sym (mod-mul-add y u x h) ∙ ap (λ n. n % u) s ∙ mod-mul-add y' u x' k;
      high = sym (div-mul-add y u x h) ∙ ap (λ n. n / u) s ∙ div-mul-add y' u x' k;
    }
