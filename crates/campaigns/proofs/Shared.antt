-- Common divisors, tried one by one.
use Rattle.std.proofs.Common.{◌≡◌, ℕ, zero, suc, ◌%◌, ◌<◌, ◌≤◌, true, false, not, eqb, refl, ap, ⊎_elim, mod-eq_of_lt, arith}
use native.Mathlib.Decide.{dec_lt}
use Rattle.std.proofs.lemmas.Bool.{cases_eq, eq-eqb, eqb-true}
use Rattle.campaigns.specs.Divisors.{Coprime, Exactly, shares}
use Rattle.campaigns.specs.Refusals.{StepRule, bad_step}

pub coprime_shares : (a b most : ℕ) → Coprime a b → shares a b most ≡ false
coprime_shares a b zero h = refl
coprime_shares a b (suc d) h = let older = coprime_shares a b d h in let here = h (suc d) in grind arith

pub divisor_shares : (a b d most : ℕ) → 1 < d → d ≤ most → a % d ≡ 0 → b % d ≡ 0 → shares a b most ≡ true
divisor_shares a b d zero big le ha hb = absurd (omega arith)
divisor_shares a b d (suc most) big le ha hb = elim (dec_lt d (suc most)) [
  | yes lt ↦ let older = divisor_shares a b d most big (omega arith) ha hb in grind arith
  | no ge ↦ let e : d ≡ suc most = omega arith in grind arith
]

-- what divides b is at most b
divisor_within : (b d : ℕ) → 0 < b → b % d ≡ 0 → d ≤ b
divisor_within b d some h = elim (dec_lt b d) [ yes lt ↦ let k : b % d ≡ b = mod-eq_of_lt lt in absurd (omega arith) | no le ↦ omega arith ]

-- the greatest common divisor decides
module _ (a b r : ℕ) (left : a % r ≡ 0) (right : b % r ≡ 0) (greatest : (d : ℕ) → a % d ≡ 0 → b % d ≡ 0 → r % d ≡ 0) where
  one_coprime : r ≡ 1 → Coprime a b
  one_coprime e d big ha hb =
      let z = greatest d ha hb in
      let k : r % d ≡ r = mod-eq_of_lt (omega arith) in
      omega arith

  -- 0 divides 0 alone, and 2 divides 0
  coprime_one : Coprime a b → r ≡ 1
  coprime_one h = elim (dec_lt 1 r) [
    | yes lt ↦ absurd (h r lt left right)
    | no le ↦ elim (dec_lt 0 r) [
      | yes some ↦ omega arith
      | no none ↦
          let e : r ≡ 0 = omega arith in
          let ha : a % 2 ≡ 0 = zero_dividend a left e in
          let hb : b % 2 ≡ 0 = zero_dividend b right e in
          absurd (h 2 (omega arith) ha hb)
    ]
  ]
    where
      zero_dividend : (x : ℕ) → x % r ≡ 0 → r ≡ 0 → x % 2 ≡ 0
      zero_dividend x d e = let z : x % 0 ≡ 0 = cc in let n : x ≡ 0 = omega arith in ap (λ y. y % 2) n

  pub coprime_exactly : Exactly (eqb r 1 ≡ true) (Coprime a b)
  coprime_exactly = (λ h. one_coprime (eqb-true r 1 h), λ h. eq-eqb r 1 (coprime_one h))

  pub coprime_tried : 0 < b → eqb r 1 ≡ not (shares a b b)
  coprime_tried some =
      ⊎_elim
      (λ (one : r ≡ 1). let none = coprime_shares a b b (one_coprime one) in grind arith)
      (λ (more : r ≡ 1 → ⊥). let found = shared more in grind arith)
      (cases_eq r 1)
    where
      shared : (r ≡ 1 → ⊥) → shares a b b ≡ true
      shared ne = elim (dec_lt 1 r) [
        | yes lt ↦ divisor_shares a b r b lt (divisor_within b r some right) left right
        | no le ↦ let e : r ≡ 0 = omega (arith, ne) in let z : b % 0 ≡ 0 = cc in absurd (omega arith)
      ]

-- ---- steps

pub usable_fits : (n step : ℕ) → not (bad_step n step) ≡ true → step ≤ n
usable_fits n step h = grind arith

pub usable_coprime : (n step : ℕ) → 0 < n → not (bad_step n step) ≡ true → Coprime step n
usable_coprime n step pos h d big hs hn =
    let found = divisor_shares step n d n big (divisor_within n d pos hn) hs hn in grind arith

usable_some : (n step : ℕ) → not (bad_step n step) ≡ true → 1 ≤ step
usable_some n step h = grind arith

pub step_rule : StepRule
step_rule n step = (
  λ h.
      let u : not (bad_step n step) ≡ true = ap not h in
      let one = usable_some n step u in
      let fits = usable_fits n step u in
      (one, fits, usable_coprime n step (omega arith) u),
  λ r. let none = coprime_shares step n n r.2 in let one = r.0 in let fits = r.1 in grind arith,
)
