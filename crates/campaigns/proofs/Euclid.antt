-- Euclid's algorithm and what follows from it: common divisors, Bezout's multiples, and a factor that may be left out.
use Rattle.std.proofs.Common.{◌≡◌, ℕ, zero, suc, ◌+◌, ◌-◌, ◌*◌, ◌/◌, ◌%◌, ◌<◌, ◌⊎◌, sym, refl, ap, ◌∙◌, inl, inr, mod-lt, mul_assoc, mul_comm, add-mul, one-mul, mul-one, mul-add, mul_left_comm, arith}
use native.Mathlib.Nat.{dvd-mod_iff, dvd_of_mod-eq-zero, mod-add-div, mod-eq-zero_of_dvd, mod_self, mul-mod_right, mul-sub, zero-mod}
use Rattle.campaigns.specs.Divisors.{Coprime}

-- one turn of Euclid's algorithm keeps the common divisors
pub down : (x y d : ℕ) → x % d ≡ 0 → y % d ≡ 0 → (x % y) % d ≡ 0
down x y d hx hy =
    mod-eq-zero_of_dvd d ((dvd-mod_iff d (dvd_of_mod-eq-zero d hy)).1 (dvd_of_mod-eq-zero d hx))

pub up : (x y d : ℕ) → y % d ≡ 0 → (x % y) % d ≡ 0 → x % d ≡ 0
up x y d hy hr =
    mod-eq-zero_of_dvd d ((dvd-mod_iff d (dvd_of_mod-eq-zero d hy)).0 (dvd_of_mod-eq-zero d hr))

-- One of two multiples is one more than the other.
abbrev pub Bezout : ℕ → ℕ → Type 0
Bezout a b = ((x : ℕ) × (y : ℕ) × (x * a ≡ 1 + y * b)) ⊎ ((x : ℕ) × (y : ℕ) × (y * b ≡ 1 + x * a))

-- what has no common divisor with 0 is 1
coprime_zero : (a : ℕ) → Coprime a 0 → a ≡ 1
coprime_zero zero h = absurd (h 2 (omega arith) (zero-mod 2) (zero-mod 2))
coprime_zero (suc zero) h = refl
coprime_zero (suc (suc a)) h = absurd (h (suc (suc a)) (omega arith) (mod_self (suc (suc a))) (zero-mod (suc (suc a))))

coprime_down : (a b : ℕ) → Coprime a b → Coprime b (a % b)
coprime_down a b h d big hb hr = h d big (up a b d hb hr) hb

-- y * (a % b) + y * (a / b) * b ≡ y * a
spread : (a b y : ℕ) → y * (a % b) + y * (a / b) * b ≡ y * a
spread a b y =
    ap (λ n. y * (a % b) + n) (mul_assoc y (a / b) b ∙ ap (λ n. y * n) (mul_comm (a / b) b))
    ∙ sym (mul-add y (a % b) (b * (a / b)))
    ∙ ap (λ n. y * n) (mod-add-div a b)

-- Bezout of (b, a % b) gives that of (a, b)
lift : (a b : ℕ) → Bezout b (a % b) → Bezout a b
lift a b (inl t) =
    inr (
      t.1,
      t.0 + t.1 * (a / b),
      omega (arith, t.2, spread a b t.1, add-mul t.0 (t.1 * (a / b)) b),
    )
lift a b (inr t) =
    inl (
      t.1,
      t.0 + t.1 * (a / b),
      omega (arith, t.2, spread a b t.1, add-mul t.0 (t.1 * (a / b)) b),
    )

bezout_by : (fuel a b : ℕ) → b < fuel → Coprime a b → Bezout a b
bezout_by zero a b h coprime = absurd (omega arith)
bezout_by (suc f) a zero h coprime =
    inl (1, 0, one-mul a ∙ coprime_zero a coprime)
bezout_by (suc f) a (suc b) h coprime =
    let lt : a % suc b < suc b = mod-lt a (omega arith) in
    lift a (suc b) (bezout_by f (suc b) (a % suc b) (omega arith) (coprime_down a (suc b) coprime))

pub bezout : (a b : ℕ) → Coprime a b → Bezout a b
bezout a b = bezout_by (suc b) a b (omega arith)

-- what makes no difference to a remainder is a multiple
pub cancel : (n a d : ℕ) → (a + d) % n ≡ a % n → d % n ≡ 0
cancel n a d e =
    let q : d ≡ n * ((a + d) / n - a / n) =
    omega (arith, mod-add-div (a + d) n, mod-add-div a n, mul-sub n ((a + d) / n) (a / n)) in
    ap (λ k. k % n) q ∙ mul-mod_right n ((a + d) / n - a / n)

-- Euclid's lemma
pub euclid : (m s n : ℕ) → Bezout s n → (m * s) % n ≡ 0 → m % n ≡ 0
euclid m s n (inl t) z =
    let x = t.0 in
    let y = t.1 in
    let q = m * s / n in
    let whole : n * q ≡ m * s = omega (arith, mod-add-div (m * s) n) in
    let one : n * (x * q) ≡ m * (x * s) = mul_left_comm n x q ∙ ap (λ k. x * k) whole ∙ mul_left_comm x m s in
    let two : m * (x * s) ≡ m + n * (m * y) =
    ap (λ k. m * k) t.2 ∙ mul-add m 1 (y * n) ∙ ap (λ k. m * 1 + k) (mul_comm m (y * n) ∙ ap (λ k. k * m) (mul_comm y n) ∙ mul_assoc n y m ∙ ap (λ k. n * k) (mul_comm y m))
    ∙ ap (λ k. k + n * (m * y)) (mul-one m) in
    let e : m ≡ n * (x * q - m * y) = omega (arith, mul-sub n (x * q) (m * y)) in
    ap (λ k. k % n) e ∙ mul-mod_right n (x * q - m * y)
euclid m s n (inr t) z =
    let x = t.0 in
    let y = t.1 in
    let q = m * s / n in
    let whole : n * q ≡ m * s = omega (arith, mod-add-div (m * s) n) in
    let one : n * (x * q) ≡ m * (x * s) = mul_left_comm n x q ∙ ap (λ k. x * k) whole ∙ mul_left_comm x m s in
    let two : n * (m * y) ≡ m + m * (x * s) =
    mul_left_comm n m y ∙ ap (λ k. m * k) (mul_comm n y ∙ t.2) ∙ mul-add m 1 (x * s) ∙ ap (λ k. k + m * (x * s)) (mul-one m) in
    let e : m ≡ n * (m * y - x * q) = omega (arith, mul-sub n (m * y) (x * q)) in
    ap (λ k. k % n) e ∙ mul-mod_right n (m * y - x * q)
