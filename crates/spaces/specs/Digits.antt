-- Digits carried to the ones of a number.
use Rattle.std.specs.Prelude.{◌≡◌, ℕ, zero, suc, ◌+◌, ◌-◌, ◌*◌, ◌/◌, ◌%◌, ◌^◌, ◌<◌, ◌≤◌, Bool, true, false, cond, ◌⊎◌, ◌==◌, ◌≢◌, refl}
use Rattle.std.proofs.Common.{sym, ap, ◌∙◌, subst, inl, inr, ⊎_elim, zero-le, suc-le-suc, pow-suc, zero-add, arith, pow_pos}
use Rattle.std.proofs.lemmas.Nat.{one_shl}
use Rattle.std.specs.Int.Count.{ones, ones_step, count_trailing_zeros, under}
use Rattle.std.proofs.lemmas.Bool.{cond-true, cond-false, eq-eqb, ne_eqb}
use Rattle.spaces.specs.Bushes.{deposit}

pub odd_or_even : (n : ℕ) → (n % 2 ≡ 1) ⊎ (n % 2 ≡ 0)
odd_or_even n = ⊎_elim (λ e. inl e) (λ e. inr e) (go (n % 2) (omega arith))
  where
    go : (r : ℕ) → r < 2 → (r ≡ 1) ⊎ (r ≡ 0)
    go zero l = inr refl
    go (suc r) l = inl (omega arith)

pub dep_odd : (d g x : ℕ) → g % 2 ≡ 1 → deposit (suc d) g x ≡ x % 2 + 2 * deposit d (g / 2) (x / 2)
unfolding deposit
dep_odd d g x e = cond-true (g % 2 == 1) (x % 2 + 2 * deposit d (g / 2) (x / 2)) (2 * deposit d (g / 2) x) (eq-eqb (g % 2) 1 e)

pub dep_even : (d g x : ℕ) → g % 2 ≡ 0 → deposit (suc d) g x ≡ 2 * deposit d (g / 2) x
unfolding deposit
dep_even d g x e = cond-false (g % 2 == 1) (x % 2 + 2 * deposit d (g / 2) (x / 2)) (2 * deposit d (g / 2) x) (ne_eqb (g % 2) 1 (λ o. omega arith))

pub dep_none : (g x : ℕ) → deposit 0 g x ≡ 0
unfolding deposit
dep_none g x = refl

tz_odd : (k n : ℕ) → n % 2 ≡ 1 → count_trailing_zeros (suc k) n ≡ 0
unfolding count_trailing_zeros
tz_odd k n e = ap (λ r. under r (count_trailing_zeros k (n / 2))) e

tz_even : (k n : ℕ) → n % 2 ≡ 0 → count_trailing_zeros (suc k) n ≡ suc (count_trailing_zeros k (n / 2))
unfolding count_trailing_zeros
tz_even k n e = ap (λ r. under r (count_trailing_zeros k (n / 2))) e

half_bound : (k n : ℕ) → n < 2 ^ suc k → n / 2 < 2 ^ k
half_bound k n h = omega (arith, pow-suc 2 k)

-- p where the lowest digit of x is 1
abbrev pub bit_of : ℕ → ℕ → ℕ
bit_of x p = cond (x % 2 == 1) p 0

bit_one : (x : ℕ) → bit_of x 1 ≡ x % 2
bit_one x = ⊎_elim (λ e. cond-true (x % 2 == 1) 1 0 (eq-eqb (x % 2) 1 e) ∙ sym e) (λ e. cond-false (x % 2 == 1) 1 0 (ne_eqb (x % 2) 1 (λ o. omega arith)) ∙ sym e) (odd_or_even x)

bit_twice : (x p : ℕ) → bit_of x (p * 2) ≡ 2 * bit_of x p
bit_twice x p = twice (x % 2 == 1)
  where
    twice : (b : Bool) → cond b (p * 2) 0 ≡ 2 * cond b p 0
    twice true = omega arith
    twice false = refl

-- the lowest one of n, and what it carries
pub record Lowest (k n x : ℕ) : Type 0 where
  pub below : count_trailing_zeros k n < k
  pub within : 2 ^ count_trailing_zeros k n ≤ n
  pub carries : deposit k n x ≡ bit_of x (2 ^ count_trailing_zeros k n) + deposit k (n - 2 ^ count_trailing_zeros k n) (x / 2)

-- the same, at t for the count of the zeros
record Lows (t k n x : ℕ) : Type 0 where
  below : t < k
  within : 2 ^ t ≤ n
  carries : deposit k n x ≡ bit_of x (2 ^ t) + deposit k (n - 2 ^ t) (x / 2)

lows : (k n x : ℕ) → 0 < n → n < 2 ^ k → Lows (count_trailing_zeros k n) k n x
lows zero n x p h = absurd (omega arith)
lows (suc k) n x p h = ⊎_elim odd (even (λ q. lows k (n / 2) x q (half_bound k n h))) (odd_or_even n)
  where
    odd : n % 2 ≡ 1 → Lows (count_trailing_zeros (suc k) n) (suc k) n x
    odd e =
        let half : (n - 1) / 2 ≡ n / 2 = omega arith in
        let less : (n - 1) % 2 ≡ 0 = omega arith in
        let rest : deposit (suc k) (n - 1) (x / 2) ≡ 2 * deposit k (n / 2) (x / 2) = dep_even k (n - 1) (x / 2) less ∙ ap (λ m. 2 * deposit k m (x / 2)) half in
        let at : Lows 0 (suc k) n x = record { below = suc-le-suc zero-le; within = p; carries = omega (arith, dep_odd k n x e, bit_one x) } in
        subst (λ t. Lows t (suc k) n x) (sym (tz_odd k n e)) at

    even : (0 < n / 2 → Lows (count_trailing_zeros k (n / 2)) k (n / 2) x) → n % 2 ≡ 0 → Lows (count_trailing_zeros (suc k) n) (suc k) n x
    even found e =
        let ih : Lows (count_trailing_zeros k (n / 2)) k (n / 2) x = found (omega arith) in
        let twice : 2 ^ suc (count_trailing_zeros k (n / 2)) ≡ 2 ^ count_trailing_zeros k (n / 2) * 2 = pow-suc 2 (count_trailing_zeros k (n / 2)) in
        let w : 2 ^ count_trailing_zeros k (n / 2) ≤ n / 2 = ih.within in
        let half : (n - 2 ^ suc (count_trailing_zeros k (n / 2))) / 2 ≡ n / 2 - 2 ^ count_trailing_zeros k (n / 2) = omega arith in
        let less : (n - 2 ^ suc (count_trailing_zeros k (n / 2))) % 2 ≡ 0 = omega arith in
        let rest : deposit (suc k) (n - 2 ^ suc (count_trailing_zeros k (n / 2))) (x / 2) ≡ 2 * deposit k (n / 2 - 2 ^ count_trailing_zeros k (n / 2)) (x / 2) = dep_even k (n - 2 ^ suc (count_trailing_zeros k (n / 2))) (x / 2) less ∙ ap (λ m. 2 * deposit k m (x / 2)) half in
        let bit : bit_of x (2 ^ suc (count_trailing_zeros k (n / 2))) ≡ 2 * bit_of x (2 ^ count_trailing_zeros k (n / 2)) = ap (bit_of x) twice ∙ bit_twice x (2 ^ count_trailing_zeros k (n / 2)) in
        let at : Lows (suc (count_trailing_zeros k (n / 2))) (suc k) n x = record { below = suc-le-suc ih.below; within = omega arith; carries = omega (arith, dep_even k n x e, ih.carries) } in
        subst (λ t. Lows t (suc k) n x) (sym (tz_even k n e)) at

pub lowest : (k n x : ℕ) → 0 < n → n < 2 ^ k → Lowest k n x
lowest k n x p h = let l = lows k n x p h in record { below = l.below; within = l.within; carries = l.carries }

-- ---- what is carried

pub dep_le : (d g x : ℕ) → deposit d g x ≤ g
dep_le zero g x = omega (arith, dep_none g x)
dep_le (suc d) g x =
    ⊎_elim (λ e. omega (arith, dep_odd d g x e, dep_le d (g / 2) (x / 2))) (λ e. omega (arith, dep_even d g x e, dep_le d (g / 2) x)) (odd_or_even g)

pub dep_zero : (d g : ℕ) → deposit d g 0 ≡ 0
dep_zero zero g = dep_none g 0
dep_zero (suc d) g =
    ⊎_elim (λ e. omega (arith, dep_odd d g 0 e, dep_zero d (g / 2))) (λ e. omega (arith, dep_even d g 0 e, dep_zero d (g / 2))) (odd_or_even g)

ones_odd : (g : ℕ) → g % 2 ≡ 1 → 2 ^ ones g ≡ 2 ^ ones (g / 2) * 2
ones_odd g e = ap (λ n. 2 ^ n) (ones_step g ∙ (let h : g % 2 + ones (g / 2) ≡ suc (ones (g / 2)) = omega arith in h)) ∙ pow-suc 2 (ones (g / 2))

ones_even : (g : ℕ) → g % 2 ≡ 0 → 2 ^ ones g ≡ 2 ^ ones (g / 2)
ones_even g e = ap (λ n. 2 ^ n) (ones_step g ∙ (let h : g % 2 + ones (g / 2) ≡ ones (g / 2) = omega arith in h))

ones_none : ones 0 ≡ 0
unfolding ones
ones_none = refl

pub dep_full : (d g : ℕ) → g < 2 ^ d → deposit d g (2 ^ ones g - 1) ≡ g
dep_full zero g h = omega (arith, dep_none g (2 ^ ones g - 1))
dep_full (suc d) g h = ⊎_elim (odd (dep_full d (g / 2) (half_bound d g h))) (even (dep_full d (g / 2) (half_bound d g h))) (odd_or_even g)
  where
    odd : deposit d (g / 2) (2 ^ ones (g / 2) - 1) ≡ g / 2 → g % 2 ≡ 1 → deposit (suc d) g (2 ^ ones g - 1) ≡ g
    odd rest e =
        let p : 0 < 2 ^ ones (g / 2) = pow_pos (ones (g / 2)) in
        let half : (2 ^ ones g - 1) / 2 ≡ 2 ^ ones (g / 2) - 1 = omega (arith, ones_odd g e) in
        let low : (2 ^ ones g - 1) % 2 ≡ 1 = omega (arith, ones_odd g e) in
        let ih : deposit d (g / 2) ((2 ^ ones g - 1) / 2) ≡ g / 2 = ap (deposit d (g / 2)) half ∙ rest in
        omega (arith, dep_odd d g (2 ^ ones g - 1) e)

    even : deposit d (g / 2) (2 ^ ones (g / 2) - 1) ≡ g / 2 → g % 2 ≡ 0 → deposit (suc d) g (2 ^ ones g - 1) ≡ g
    even rest e =
        let ih : deposit d (g / 2) (2 ^ ones g - 1) ≡ g / 2 = ap (λ p. deposit d (g / 2) (p - 1)) (ones_even g e) ∙ rest in
        omega (arith, dep_even d g (2 ^ ones g - 1) e)

pub dep_inj : (d g x y : ℕ) → g < 2 ^ d → x < 2 ^ ones g → y < 2 ^ ones g → deposit d g x ≡ deposit d g y → x ≡ y
dep_inj zero g x y h a b e =
    let none : g ≡ 0 = omega arith in
    let one : 2 ^ ones g ≡ 1 = ap (λ n. 2 ^ ones n) none ∙ ap (λ n. 2 ^ n) ones_none in
    omega arith
dep_inj (suc d) g x y h a b e = ⊎_elim (odd (λ x y. dep_inj d (g / 2) x y (half_bound d g h))) (even (λ x y. dep_inj d (g / 2) x y (half_bound d g h))) (odd_or_even g)
  where
    odd : ((x y : ℕ) → x < 2 ^ ones (g / 2) → y < 2 ^ ones (g / 2) → deposit d (g / 2) x ≡ deposit d (g / 2) y → x ≡ y) → g % 2 ≡ 1 → x ≡ y
    odd rest o =
        let same : x % 2 + 2 * deposit d (g / 2) (x / 2) ≡ y % 2 + 2 * deposit d (g / 2) (y / 2) = sym (dep_odd d g x o) ∙ e ∙ dep_odd d g y o in
        let low : x % 2 ≡ y % 2 = omega arith in
        let high : deposit d (g / 2) (x / 2) ≡ deposit d (g / 2) (y / 2) = omega arith in
        let ih : x / 2 ≡ y / 2 = rest (x / 2) (y / 2) (omega (arith, ones_odd g o)) (omega (arith, ones_odd g o)) high in
        omega arith

    even : ((x y : ℕ) → x < 2 ^ ones (g / 2) → y < 2 ^ ones (g / 2) → deposit d (g / 2) x ≡ deposit d (g / 2) y → x ≡ y) → g % 2 ≡ 0 → x ≡ y
    even rest o =
        let same : 2 * deposit d (g / 2) x ≡ 2 * deposit d (g / 2) y = sym (dep_even d g x o) ∙ e ∙ dep_even d g y o in
        rest x y (omega (arith, ones_even g o)) (omega (arith, ones_even g o)) (omega arith)

-- ---- the loop of `carried`, whose `1 << t` is (1 * 2 ^ t) % 65536
pub low_is : (n : ℕ) → 0 < n → n < 65536 → (1 * 2 ^ count_trailing_zeros 16 n) % 65536 ≡ 2 ^ count_trailing_zeros 16 n
low_is n p h = one_shl (count_trailing_zeros 16 n) 16 (lowest 16 n 0 p h).below

pub shift_fits : (n : ℕ) → (n ≢ 0) → n < 65536 → count_trailing_zeros 16 n < 16
shift_fits n p h = (lowest 16 n 0 (omega arith) h).below

pub low_pos : (n : ℕ) → (n ≢ 0) → n < 65536 → 0 < (1 * 2 ^ count_trailing_zeros 16 n) % 65536
low_pos n p h = omega (arith, low_is n (omega arith) h, pow_pos (count_trailing_zeros 16 n))

pub low_within : (n : ℕ) → (n ≢ 0) → n < 65536 → (1 * 2 ^ count_trailing_zeros 16 n) % 65536 ≤ n
low_within n p h = omega (arith, low_is n (omega arith) h, (lowest 16 n 0 (omega arith) h).within)

pub low_carries : (n x : ℕ) → (n ≢ 0) → n < 65536 → deposit 16 n x ≡ bit_of x ((1 * 2 ^ count_trailing_zeros 16 n) % 65536) + deposit 16 (n - (1 * 2 ^ count_trailing_zeros 16 n) % 65536) (x / 2)
low_carries n x p h =
    (lowest 16 n x (omega arith) h).carries ∙ ap (λ q. bit_of x q + deposit 16 (n - q) (x / 2)) (sym (low_is n (omega arith) h))

pub carry_one : (n x : ℕ) → (n ≢ 0) → n < 65536 → x % 2 ≡ 1 → deposit 16 n x ≡ (1 * 2 ^ count_trailing_zeros 16 n) % 65536 + deposit 16 (n - (1 * 2 ^ count_trailing_zeros 16 n) % 65536) (x / 2)
carry_one n x p h e = low_carries n x p h ∙ ap (λ b. cond b ((1 * 2 ^ count_trailing_zeros 16 n) % 65536) 0 + deposit 16 (n - (1 * 2 ^ count_trailing_zeros 16 n) % 65536) (x / 2)) (eq-eqb (x % 2) 1 e)

pub carry_none : (n x : ℕ) → (n ≢ 0) → n < 65536 → (x % 2 ≢ 1) → deposit 16 n x ≡ deposit 16 (n - (1 * 2 ^ count_trailing_zeros 16 n) % 65536) (x / 2)
carry_none n x p h e =
    low_carries n x p h ∙ ap (λ b. cond b ((1 * 2 ^ count_trailing_zeros 16 n) % 65536) 0 + deposit 16 (n - (1 * 2 ^ count_trailing_zeros 16 n) % 65536) (x / 2)) (ne_eqb (x % 2) 1 e)
    ∙ zero-add (deposit 16 (n - (1 * 2 ^ count_trailing_zeros 16 n) % 65536) (x / 2))

pub carry_end : (x : ℕ) → deposit 16 0 x ≡ 0
carry_end x = omega (arith, dep_le 16 0 x)
