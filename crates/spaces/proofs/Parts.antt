-- The parts of a set from the largest proper one down: the part after R is `(R - 1) & g`, and what it leaves of g goes up by one index.
use Rattle.std.proofs.Common.{◌≡◌, ℕ, zero, suc, ◌+◌, ◌-◌, ◌*◌, ◌/◌, ◌%◌, ◌^◌, ◌<◌, ◌≤◌, min, List, [], ◌∷◌, ◌++◌, map, length, take, sym, refl, ap, ◌∙◌, ⊎_elim, pow-suc, zero-le, arith}
use lib.Bits.{and_step, bit_and}
use lib.Count.{ones}
use Rattle.std.specs.List.{range_with_len}
use Rattle.std.proofs.lemmas.List.FromFn.{length-map-range_with_len}
use Rattle.std.proofs.lemmas.List.{take_all}
use Rattle.std.proofs.lemmas.Bool.{cases_lt}
use Rattle.spaces.specs.declared.kind.Kind.{Kind}
use Rattle.spaces.specs.declared.space.Alternative.{Alternative}
use Rattle.spaces.specs.Bushes.{deposit, split}
use Rattle.spaces.proofs.Filling.{filled_more}
use Rattle.spaces.specs.BushesLemmas.{nth_counting}
use Rattle.spaces.specs.Digits.{dep_even, dep_full, dep_inj, dep_le, dep_odd, dep_zero, odd_or_even}

-- one digit of a conjunction
and_digit : (a b h k : ℕ) → a / 2 ≡ h → bit_and h (b / 2) ≡ k → bit_and a b ≡ k * 2 + min (a % 2) (b % 2)
and_digit a b h k e f = and_step a b ∙ ap (λ n. n * 2 + min (a % 2) (b % 2)) (ap (λ n. bit_and n (b / 2)) e ∙ f)

-- what a part leaves of g is a part of g
pub left_over : (d g x : ℕ) → g < 2 ^ d → bit_and (g - deposit d g x) g ≡ g - deposit d g x
left_over zero g x l = let none : g - deposit 0 g x ≡ 0 = omega arith in ap (λ n. bit_and n g) none ∙ sym none
left_over (suc d) g x l = let below : (y : ℕ) → bit_and (g / 2 - deposit d (g / 2) y) (g / 2) ≡ g / 2 - deposit d (g / 2) y = λ y. left_over d (g / 2) y short in ⊎_elim (odd below) (even below) (odd_or_even g)
  where
    short : g / 2 < 2 ^ d
    short = omega (arith, pow-suc 2 d)

    even : ((y : ℕ) → bit_and (g / 2 - deposit d (g / 2) y) (g / 2) ≡ g / 2 - deposit d (g / 2) y) → g % 2 ≡ 0 → bit_and (g - deposit (suc d) g x) g ≡ g - deposit (suc d) g x
    even below e =
        let dep : deposit (suc d) g x ≡ 2 * deposit d (g / 2) x = dep_even d g x e in
        let le : deposit d (g / 2) x ≤ g / 2 = dep_le d (g / 2) x in
        let half : (g - deposit (suc d) g x) / 2 ≡ g / 2 - deposit d (g / 2) x = omega arith in
        let all : bit_and (g - deposit (suc d) g x) g ≡ (g / 2 - deposit d (g / 2) x) * 2 + min ((g - deposit (suc d) g x) % 2) (g % 2) = and_digit (g - deposit (suc d) g x) g _ _ half (below x) in
        omega arith

    odd : ((y : ℕ) → bit_and (g / 2 - deposit d (g / 2) y) (g / 2) ≡ g / 2 - deposit d (g / 2) y) → g % 2 ≡ 1 → bit_and (g - deposit (suc d) g x) g ≡ g - deposit (suc d) g x
    odd below e =
        let dep : deposit (suc d) g x ≡ x % 2 + 2 * deposit d (g / 2) (x / 2) = dep_odd d g x e in
        let le : deposit d (g / 2) (x / 2) ≤ g / 2 = dep_le d (g / 2) (x / 2) in
        let half : (g - deposit (suc d) g x) / 2 ≡ g / 2 - deposit d (g / 2) (x / 2) = omega arith in
        let all : bit_and (g - deposit (suc d) g x) g ≡ (g / 2 - deposit d (g / 2) (x / 2)) * 2 + min ((g - deposit (suc d) g x) % 2) (g % 2) = and_digit (g - deposit (suc d) g x) g _ _ half (below (x / 2)) in
        omega arith

pub next_part : (d g x : ℕ) → g < 2 ^ d → deposit d g x < g → bit_and (g - deposit d g x - 1) g ≡ g - deposit d g (x + 1)
next_part zero g x l m = absurd (omega arith)
next_part (suc d) g x l m = let below : (y : ℕ) → deposit d (g / 2) y < g / 2 → bit_and (g / 2 - deposit d (g / 2) y - 1) (g / 2) ≡ g / 2 - deposit d (g / 2) (y + 1) = λ y. next_part d (g / 2) y short in ⊎_elim (odd below) (even below) (odd_or_even g)
  where
    short : g / 2 < 2 ^ d
    short = omega (arith, pow-suc 2 d)

    even : ((y : ℕ) → deposit d (g / 2) y < g / 2 → bit_and (g / 2 - deposit d (g / 2) y - 1) (g / 2) ≡ g / 2 - deposit d (g / 2) (y + 1)) → g % 2 ≡ 0 → bit_and (g - deposit (suc d) g x - 1) g ≡ g - deposit (suc d) g (x + 1)
    even below e =
        let dep : deposit (suc d) g x ≡ 2 * deposit d (g / 2) x = dep_even d g x e in
        let up : deposit (suc d) g (x + 1) ≡ 2 * deposit d (g / 2) (x + 1) = dep_even d g (x + 1) e in
        let le : deposit d (g / 2) (x + 1) ≤ g / 2 = dep_le d (g / 2) (x + 1) in
        let less : deposit d (g / 2) x < g / 2 = omega arith in
        let half : (g - deposit (suc d) g x - 1) / 2 ≡ g / 2 - deposit d (g / 2) x - 1 = omega arith in
        let all : bit_and (g - deposit (suc d) g x - 1) g ≡ (g / 2 - deposit d (g / 2) (x + 1)) * 2 + min ((g - deposit (suc d) g x - 1) % 2) (g % 2) = and_digit (g - deposit (suc d) g x - 1) g _ _ half (below x less) in
        omega arith

    odd : ((y : ℕ) → deposit d (g / 2) y < g / 2 → bit_and (g / 2 - deposit d (g / 2) y - 1) (g / 2) ≡ g / 2 - deposit d (g / 2) (y + 1)) → g % 2 ≡ 1 → bit_and (g - deposit (suc d) g x - 1) g ≡ g - deposit (suc d) g (x + 1)
    odd below e = ⊎_elim carries stays (odd_or_even x)
      where
        dep : deposit (suc d) g x ≡ x % 2 + 2 * deposit d (g / 2) (x / 2)
        dep = dep_odd d g x e

        up : (h : ℕ) → (x + 1) / 2 ≡ h → deposit (suc d) g (x + 1) ≡ (x + 1) % 2 + 2 * deposit d (g / 2) h
        up h q = dep_odd d g (x + 1) e ∙ ap (λ n. (x + 1) % 2 + 2 * deposit d (g / 2) n) q

        stays : x % 2 ≡ 0 → bit_and (g - deposit (suc d) g x - 1) g ≡ g - deposit (suc d) g (x + 1)
        stays z =
            let le : deposit d (g / 2) (x / 2) ≤ g / 2 = dep_le d (g / 2) (x / 2) in
            let more : deposit (suc d) g (x + 1) ≡ (x + 1) % 2 + 2 * deposit d (g / 2) (x / 2) = up (x / 2) (omega arith) in
            let half : (g - deposit (suc d) g x - 1) / 2 ≡ g / 2 - deposit d (g / 2) (x / 2) = omega (arith, dep) in
            let all : bit_and (g - deposit (suc d) g x - 1) g ≡ (g / 2 - deposit d (g / 2) (x / 2)) * 2 + min ((g - deposit (suc d) g x - 1) % 2) (g % 2) = and_digit (g - deposit (suc d) g x - 1) g _ _ half (left_over d (g / 2) (x / 2) short) in
            omega (arith, dep)

        carries : x % 2 ≡ 1 → bit_and (g - deposit (suc d) g x - 1) g ≡ g - deposit (suc d) g (x + 1)
        carries o =
            let le : deposit d (g / 2) (x / 2 + 1) ≤ g / 2 = dep_le d (g / 2) (x / 2 + 1) in
            let more : deposit (suc d) g (x + 1) ≡ (x + 1) % 2 + 2 * deposit d (g / 2) (x / 2 + 1) = up (x / 2 + 1) (omega arith) in
            let less : deposit d (g / 2) (x / 2) < g / 2 = omega (arith, dep) in
            let half : (g - deposit (suc d) g x - 1) / 2 ≡ g / 2 - deposit d (g / 2) (x / 2) - 1 = omega (arith, dep) in
            let all : bit_and (g - deposit (suc d) g x - 1) g ≡ (g / 2 - deposit d (g / 2) (x / 2 + 1)) * 2 + min ((g - deposit (suc d) g x - 1) % 2) (g % 2) = and_digit (g - deposit (suc d) g x - 1) g _ _ half (below (x / 2) less) in
            omega (arith, dep)

-- ---- the loop over the parts

abbrev pub splits_of : Kind → ℕ → List Alternative
splits_of join g = map (split join g) (range_with_len 0 (2 ^ ones g - 2))

-- the part `right` is the next right side, and the splits before it stand in `now`
pub record Splitting (join : Kind) (g : ℕ) (now : List Alternative) (right : ℕ) : Type 0 where
  pub at : ℕ
  pub within : at ≤ length (splits_of join g)
  pub is : right ≡ g - deposit 16 g (at + 1)
  pub same : now ≡ take at (splits_of join g)

module _ (join : Kind) (g : ℕ) (pos : 0 < g) (fits : g < 65536) where
  wide : g < 2 ^ 16
  wide = fits

  two : 2 ≤ 2 ^ ones g
  two = ⊎_elim
      (λ (l : 2 ^ ones g < 2). let none : 2 ^ ones g - 1 ≡ 0 = omega arith in
      let same : deposit 16 g 0 ≡ g = ap (deposit 16 g) (sym none) ∙ dep_full 16 g wide in absurd (omega (arith, dep_zero 16 g)))
      (λ (h : 2 ≤ 2 ^ ones g). h)
      (cases_lt (2 ^ ones g) 2)

  long : length (splits_of join g) ≡ 2 ^ ones g - 2
  long = length-map-range_with_len (split join g) 0 (2 ^ ones g - 2)

  pub splitting_start : Splitting join g [] (bit_and (g - 1) g)
  splitting_start = record {
    at = 0;
    within = zero-le;
    is =
        let none : deposit 16 g 0 ≡ 0 = dep_zero 16 g in
        ap (λ n. bit_and (n - 1) g) (omega arith) ∙ next_part 16 g 0 wide (omega arith);
    same = refl;
  }

  pub splitting_more : (now new : List Alternative) (right : ℕ) → Splitting join g now right → (right ≡ 0 → ⊥) → new ≡ now ++ (record { kind = join; tag = 0; left = g - right; right = right } ∷ []) → Splitting join g new (bit_and (right - 1) g)
  splitting_more now new right s ne e =
      let at = s.at in
      let is : right ≡ g - deposit 16 g (at + 1) = s.is in
      let le : deposit 16 g (at + 1) ≤ g = dep_le 16 g (at + 1) in
      let left : g - right ≡ deposit 16 g (at + 1) = omega arith in
      let less : at < 2 ^ ones g - 2 = ⊎_elim (λ (l : at < 2 ^ ones g - 2). l) (λ (m : 2 ^ ones g - 2 ≤ at). absurd (ne (full at is (omega (arith, s.within, long, two))))) (cases_lt at (2 ^ ones g - 2)) in
      record {
        at = at + 1;
        within = omega (arith, long);
        is = ap (λ n. bit_and (n - 1) g) is ∙ next_part 16 g (at + 1) wide (omega (arith, ne));
        same = filled_more (splits_of join g) now new at (split join g at) s.same (nth_counting (split join g) (2 ^ ones g - 2) at less)
            (e ∙ (λ i. now ++ (record { kind = join; tag = 0; left = left i; right = is i } ∷ [])));
      }
    where
      full : (at : ℕ) → right ≡ g - deposit 16 g (at + 1) → at + 1 ≡ 2 ^ ones g - 1 → right ≡ 0
      full at is q = let same : deposit 16 g (at + 1) ≡ g = ap (deposit 16 g) q ∙ dep_full 16 g wide in omega arith

  pub splitting_end : (now : List Alternative) (right : ℕ) → Splitting join g now right → right ≡ 0 → now ≡ splits_of join g
  splitting_end now right s z =
      let at = s.at in
      let is : right ≡ g - deposit 16 g (at + 1) = s.is in
      let le : deposit 16 g (at + 1) ≤ g = dep_le 16 g (at + 1) in
      let all : deposit 16 g (at + 1) ≡ deposit 16 g (2 ^ ones g - 1) = omega (arith, dep_full 16 g wide) in
      let last : at + 1 ≡ 2 ^ ones g - 1 = dep_inj 16 g (at + 1) (2 ^ ones g - 1) wide (omega (arith, s.within, long, two)) (omega (arith, two)) all in
      s.same ∙ take_all at (splits_of join g) (omega (arith, long))
