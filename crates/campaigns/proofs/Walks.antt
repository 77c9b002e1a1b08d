-- The walk k ↦ (start + k * step) % n: it meets each number below n once, and goes on by one addition or subtraction.
use Rattle.std.proofs.Common.{◌≡◌, ℕ, ◌+◌, ◌-◌, ◌*◌, ◌/◌, ◌%◌, ◌<◌, ◌≤◌, sym, ap, ◌∙◌, inl, inr, mod-lt, mod-eq_of_lt, mul_assoc, mul_comm, add-mul, mul-one, mul-add, mul_left_comm, arith}
use native.Mathlib.Decide.{dec_le}
use native.Mathlib.Nat.{add-mod_right, add-mul-mod_self_left, mod-add-div, mod-add-mod, mod-eq-sub-mod, mul-add-mod_self_left}
use Rattle.campaigns.specs.Divisors.{Coprime}
use Rattle.campaigns.specs.Walks.{walk}
use Rattle.campaigns.proofs.Euclid.{Bezout, bezout, cancel, euclid}

-- in n steps the walk meets each number below n once
pub record Tours (n start step : ℕ) : Type 0 where
  pub once : (j k : ℕ) → j < n → k < n → walk n start step j ≡ walk n start step k → j ≡ k
  pub every : (x : ℕ) → x < n → (k : ℕ) × (k < n) × (walk n start step k ≡ x)

module _ (n start step : ℕ) (below : start < n) (coprime : Coprime step n) where
  ordered : (j k : ℕ) → j ≤ k → k < n → walk n start step j ≡ walk n start step k → j ≡ k
  ordered j k le lt e =
      let m = k - j in
      let split : start + k * step ≡ (start + j * step) + m * step =
      omega (arith, ap (λ i. i * step) (let s : k ≡ j + m = omega arith in s), add-mul j m step) in
      let z : (m * step) % n ≡ 0 = cancel n (start + j * step) (m * step) (sym (ap (λ i. i % n) split) ∙ sym e) in
      let f : m % n ≡ 0 = euclid m step n (bezout step n coprime) z in
      let g : m % n ≡ m = mod-eq_of_lt (omega arith) in
      omega arith

  once : (j k : ℕ) → j < n → k < n → walk n start step j ≡ walk n start step k → j ≡ k
  once j k hj hk e =
      elim (dec_le j k) [ yes le ↦ ordered j k le hk e | no h ↦ sym (ordered k j (omega arith) hj (sym e)) ]

  -- steps may be counted modulo n
  wrap : (K : ℕ) → walk n start step (K % n) ≡ walk n start step K
  wrap K =
      let r = K % n in
      let q = K / n in
      let e : start + K * step ≡ (start + r * step) + n * (q * step) =
      omega (arith, ap (λ i. i * step) (sym (mod-add-div K n)), add-mul r (n * q) step, mul_assoc n q step) in
      sym (ap (λ i. i % n) e ∙ add-mul-mod_self_left (start + r * step) n (q * step))

  hits : (p : ℕ) → p < n → Bezout step n → (K : ℕ) × (walk n start step K ≡ p)
  hits p lt (inl t) =
      let x = t.0 in
      let y = t.1 in
      let E = p + (n - start) in
      let s : E * x * step ≡ E + n * (E * y) =
      mul_assoc E x step ∙ ap (λ k. E * k) t.2 ∙ mul-add E 1 (y * n) ∙ ap (λ k. E * 1 + k) (ap (λ k. E * k) (mul_comm y n) ∙ mul_left_comm E n y)
      ∙ ap (λ k. k + n * (E * y)) (mul-one E) in
      let e : start + E * x * step ≡ (n * (E * y) + p) + n = omega arith in
      (E * x, ap (λ i. i % n) e ∙ add-mod_right (n * (E * y) + p) n ∙ mul-add-mod_self_left n (E * y) p ∙ mod-eq_of_lt lt)
  hits p lt (inr t) =
      let x = t.0 in
      let y = t.1 in
      let E = start + (n - p) in
      let s : n * (E * y) ≡ E + E * x * step =
      mul_left_comm n E y ∙ ap (λ k. E * k) (mul_comm n y ∙ t.2) ∙ mul-add E 1 (x * step) ∙ ap (λ k. k + E * (x * step)) (mul-one E) ∙ ap (λ k. E + k) (sym (mul_assoc E x step)) in
      let e : (start + E * x * step) + n ≡ n * (E * y) + p = omega arith in
      (E * x, sym (add-mod_right (start + E * x * step) n) ∙ ap (λ i. i % n) e ∙ mul-add-mod_self_left n (E * y) p ∙ mod-eq_of_lt lt)

  every : (p : ℕ) → p < n → (k : ℕ) × (k < n) × (walk n start step k ≡ p)
  every p lt =
      let h = hits p lt (bezout step n coprime) in
      (h.0 % n, mod-lt h.0 (omega arith), wrap h.0 ∙ h.1)

-- a step that has no common divisor with n above 1 tours the numbers below n
pub tour : (n start step : ℕ) → start < n → Coprime step n → Tours n start step
tour n start step below coprime = record { once = once n start step below coprime; every = every n start step below coprime }

-- the next number, from the last
pub onward : (n start step k : ℕ) → walk n start step (k + 1) ≡ (walk n start step k + step) % n
onward n start step k =
    let e : start + (k + 1) * step ≡ (start + k * step) + step = omega (arith, add-mul k 1 step) in
    ap (λ i. i % n) e ∙ sym (mod-add-mod (start + k * step) n step)

-- a step that passes n
pub around : (n step x : ℕ) → step ≤ n → x < n → n ≤ x + step → x - (n - step) ≡ (x + step) % n
around n step x fits lt ge =
    let same : x - (n - step) ≡ (x + step) - n = omega arith in
    let small : (x + step) - n < n = omega arith in
    same ∙ sym (mod-eq-sub-mod ge ∙ mod-eq_of_lt small)
