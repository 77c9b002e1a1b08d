-- The bushy trees: their lists read by places, and their laws.
use Rattle.std.specs.Prelude.{◌≡◌, ℕ, zero, suc, ◌+◌, ◌-◌, ◌*◌, ◌%◌, ◌^◌, ◌<◌, ◌≤◌, List, [], ◌∷◌, map, length, Some, None, ◌==◌, ◌≢◌, count_ones, nat_lt, refl}
use Rattle.std.proofs.Common.{sym, ap, ◌∙◌, ⊎_elim, zero-le, arith, pow_pos, pow_mono}
use Rattle.std.specs.List.{range_with_len, AllByRecursion, slice_get}
use Rattle.std.proofs.lemmas.Option.{slice_get-get_or, slice_get_past}
use Rattle.std.proofs.lemmas.List.FromFn.{length-map-range_with_len, get_or-map-range_with_len}
use Rattle.std.proofs.lemmas.Nat.{one_shl, ones-le, trailing_le}
use Rattle.std.proofs.lemmas.Bool.{cond-true, cond-false, cond_both, lt-ltb, le-ltb, ltb-true, eq-eqb, ne_eqb, cases_lt}
use Rattle.spaces.specs.declared.kind.Kind.{Kind}
use Rattle.spaces.specs.declared.space.Alternative.{Alternative}
use Rattle.spaces.specs.Kinds.{arity}
use Rattle.spaces.specs.Spaces.{Lawful, Apart, Sound}
use Rattle.spaces.specs.Bushes.{deposit, scan, split, bushy_list, bushes}
use Rattle.spaces.specs.Digits.{dep_le, dep_zero, dep_full, dep_inj}

-- ---- a list by a function of the index

all_counting : {X : Type 0} (P : X → Type 0) (f : ℕ → X) (a n : ℕ) → ((j : ℕ) → j < a + n → P (f j)) → AllByRecursion P (map f (range_with_len a n))
all_counting P f a zero h = tt
all_counting P f a (suc n) h = (h a (omega arith), all_counting P f (a + 1) n (λ j l. h j (omega arith)))

apart_counting : {X : Type 0} (f : ℕ → X) (m a n : ℕ) → a + n ≤ m → ((i j : ℕ) → i < m → j < m → f i ≡ f j → i ≡ j) → Apart (map f (range_with_len a n))
apart_counting f m a zero l inj = tt
apart_counting {X} f m a (suc n) l inj =
    (others (a + 1) n (omega arith) (omega arith), apart_counting f m (a + 1) n (omega arith) inj)
  where
    others : (b k : ℕ) → a < b → b + k ≤ m → AllByRecursion (λ y. f a ≢ y) (map f (range_with_len b k))
    others b zero lt le = tt
    others b (suc k) lt le = ((λ e. let same : a ≡ b = inj a b (omega arith) (omega arith) e in omega arith), others (b + 1) k (omega arith) (omega arith))

pub nth_counting : {X : Type 0} (f : ℕ → X) (n i : ℕ) → i < n → slice_get (map f (range_with_len 0 n)) i ≡ Some (f i)
nth_counting f n i l =
    slice_get-get_or (map f (range_with_len 0 n)) i (f 0) (omega (arith, length-map-range_with_len f 0 n)) ∙ ap Some (get_or-map-range_with_len f 0 n i i (f 0) l (omega arith))

-- ---- the lists by places

pub pow_few : (n g : ℕ) → n ≤ 10 → g < 2 ^ n → (2 ^ count_ones g ≤ 1024) × (count_ones g ≤ 10) × (g < 1024) × (2 ^ n ≤ 1024)
pow_few n g few l =
    let o : count_ones g ≤ n = ones-le n g l in
    let le : count_ones g ≤ 10 = omega arith in
    let a : 2 ^ count_ones g ≤ 2 ^ 10 = pow_mono le in
    let b : 2 ^ n ≤ 2 ^ 10 = pow_mono few in
    (a, le, omega arith, b)

pub shift_is : (g : ℕ) → count_ones g ≤ 16 → (1 * 2 ^ count_ones g) % 4294967296 ≡ 2 ^ count_ones g
shift_is g l = one_shl (count_ones g) 32 (omega arith)

pub two_up : (o : ℕ) → (o ≢ 0) → (o ≢ 1) → 4 ≤ 2 ^ o
two_up o a b = let le : 2 ≤ o = omega arith in let p : 2 ^ 2 ≤ 2 ^ o = pow_mono le in p

module _ (n : ℕ) (join : Kind) (g : ℕ) where
  at_in : g < 2 ^ n → (bushes n join).lists g ≡ bushy_list join g
  at_in l = cond-true (nat_lt g (2 ^ n)) (bushy_list join g) [] (lt-ltb g (2 ^ n) l)

  pub at_out : 2 ^ n ≤ g → (bushes n join).lists g ≡ []
  at_out l = cond-false (nat_lt g (2 ^ n)) (bushy_list join g) [] (le-ltb g (2 ^ n) l)

  pub at_one : g < 2 ^ n → count_ones g ≡ 1 → (bushes n join).lists g ≡ scan g ∷ []
  at_one l e = at_in l ∙ cond-true (count_ones g == 1) (scan g ∷ []) (map (split join g) (range_with_len 0 (2 ^ count_ones g - 2))) (eq-eqb (count_ones g) 1 e)

  at_many : g < 2 ^ n → (count_ones g ≢ 1) → (bushes n join).lists g ≡ map (split join g) (range_with_len 0 (2 ^ count_ones g - 2))
  at_many l e = at_in l ∙ cond-false (count_ones g == 1) (scan g ∷ []) (map (split join g) (range_with_len 0 (2 ^ count_ones g - 2))) (ne_eqb (count_ones g) 1 e)

  pub at_zero : g ≡ 0 → (bushes n join).lists g ≡ []
  at_zero z =
      let none : count_ones g ≡ 0 = omega (arith, ones-le 0 g (omega arith)) in
      at_many (omega (arith, pow_pos n)) (λ e. omega arith) ∙ ap (λ k. map (split join g) (range_with_len 0 (2 ^ k - 2))) none

  pub width_many : g < 2 ^ n → (count_ones g ≢ 1) → 2 ^ count_ones g - 2 ≡ length ((bushes n join).lists g)
  width_many l e = sym (ap length (at_many l e) ∙ length-map-range_with_len (split join g) 0 (2 ^ count_ones g - 2))

  pub inside : (i : ℕ) → i < length ((bushes n join).lists g) → g < 2 ^ n
  inside i l = ⊎_elim (λ (a : g < 2 ^ n). a) (λ (b : 2 ^ n ≤ g). absurd (omega (arith, ap length (at_out b)))) (cases_lt g (2 ^ n))

  pub get_none : (i : ℕ) → length ((bushes n join).lists g) ≤ i → None ≡ slice_get ((bushes n join).lists g) i
  get_none i l = sym (slice_get_past ((bushes n join).lists g) i l)

  pub get_one : (i : ℕ) → i < length ((bushes n join).lists g) → count_ones g ≡ 1 → Some (scan g) ≡ slice_get ((bushes n join).lists g) i
  get_one i l e =
      let one : (bushes n join).lists g ≡ scan g ∷ [] = at_one (inside i l) e in
      let first : i ≡ 0 = omega (arith, ap length one) in
      sym (ap (λ ys. slice_get ys i) one ∙ ap (slice_get (scan g ∷ [])) first)

  pub index_small : (i : ℕ) → n ≤ 10 → i < length ((bushes n join).lists g) → (count_ones g ≢ 1) → i < 1022
  index_small i few l e = let s = pow_few n g few (inside i l) in omega (arith, s.0, width_many (inside i l) e)

  pub get_many : (i : ℕ) → i < length ((bushes n join).lists g) → (count_ones g ≢ 1) → Some (split join g i) ≡ slice_get ((bushes n join).lists g) i
  get_many i l e =
      let short : i < 2 ^ count_ones g - 2 = omega (arith, width_many (inside i l) e) in
      sym (ap (λ ys. slice_get ys i) (at_many (inside i l) e) ∙ nth_counting (split join g) (2 ^ count_ones g - 2) i short)

-- ---- the laws

split_sound : (join : Kind) (g j : ℕ) → arity join ≡ 2 → g < 65536 → j < 2 ^ count_ones g - 2 → Sound g (split join g j)
split_sound join g j two small l =
    let some : deposit 16 g (j + 1) ≡ 0 → ⊥ = λ e. let z : j + 1 ≡ 0 = dep_inj 16 g (j + 1) 0 small (omega arith) (omega arith) (e ∙ sym (dep_zero 16 g)) in omega arith in
    let part : deposit 16 g (j + 1) ≡ g → ⊥ = λ e. let z : j + 1 ≡ 2 ^ count_ones g - 1 = dep_inj 16 g (j + 1) (2 ^ count_ones g - 1) small (omega arith) (omega arith) (e ∙ sym (dep_full 16 g small)) in omega arith in
    let le : deposit 16 g (j + 1) ≤ g = dep_le 16 g (j + 1) in
    record {
      left_below = λ _. omega (arith, part);
      left_unused = λ e. absurd (omega arith);
      right_below = λ _. omega (arith, some);
      right_unused = λ e. absurd (omega arith);
      tag_fits = omega arith;
    }

scan_sound : (g : ℕ) → Sound g (scan g)
scan_sound g = record {
  left_below = λ e. absurd (omega arith);
  left_unused = λ _. refl;
  right_below = λ e. absurd (omega arith);
  right_unused = λ _. refl;
  tag_fits = omega (arith, trailing_le 16 g);
}

by_list : (n : ℕ) (join : Kind) (g : ℕ) (P : List Alternative → Type 0) → P [] → (g < 2 ^ n → P (scan g ∷ [])) → (g < 2 ^ n → P (map (split join g) (range_with_len 0 (2 ^ count_ones g - 2)))) → P ((bushes n join).lists g)
by_list n join g P none one many =
    cond_both (nat_lt g (2 ^ n)) (bushy_list join g) [] P
    (λ e. cond_both (count_ones g == 1) (scan g ∷ []) (map (split join g) (range_with_len 0 (2 ^ count_ones g - 2))) P (λ _. one (ltb-true g (2 ^ n) e)) (λ _. many (ltb-true g (2 ^ n) e)))
    (λ _. none)

pub bushes_lawful : (n : ℕ) (join : Kind) → (1 ≤ n) × (n ≤ 10) → arity join ≡ 2 → Lawful (bushes n join)
bushes_lawful n join few two =
    let p : 0 < 2 ^ n = pow_pos n in
    let top : 2 ^ n ≤ 2 ^ 10 = pow_mono few.1 in
    record {
      few = omega arith;
      root_below = λ _. omega arith;
      root_none = λ e. omega arith;
      outside = λ g l. at_out n join g l;
      narrow = λ g. by_list n join g (λ ys. length ys ≤ 4096 + g) zero-le (λ l. omega arith) (λ l. let s = pow_few n g few.1 l in omega (arith, s.0, length-map-range_with_len (split join g) 0 (2 ^ count_ones g - 2)));
      sound = λ g. by_list n join g (AllByRecursion (Sound g)) tt (λ l. (scan_sound g, tt)) (λ l. all_counting (Sound g) (split join g) 0 (2 ^ count_ones g - 2) (λ j lt. split_sound join g j two (omega arith) (omega arith)));
      distinct = λ g. by_list n join g Apart tt (λ l. (tt, tt)) (λ l. apart_counting (split join g) (2 ^ count_ones g - 2) 0 (2 ^ count_ones g - 2) (omega arith)
          (λ i j a b e. let same : i + 1 ≡ j + 1 = dep_inj 16 g (i + 1) (j + 1) (omega arith) (omega arith) (omega arith) (ap (λ (x : Alternative). x.left) e) in omega arith));
    }
