-- What the operations on numbers are to sets of relations.
use Rattle.std.proofs.Common.{◌≡◌, ℕ, zero, suc, ◌+◌, ◌/◌, ◌%◌, ◌^◌, ◌<◌, ◌≤◌, min, max, Bool, true, false, not, ◌&&◌, ◌||◌, eqb, Decides, sym, refl, ap, ◌∙◌, ⊎_elim, pow-suc, div-one, one-add, arith}
use native.Mathlib.Nat.{zero-div}
use lib.Bits.{and_shr, and_step, bit_and, bit_or, or_shr, or_step}
use Rattle.std.proofs.lemmas.Nat.{shr-shr}
use Rattle.std.proofs.lemmas.Bool.{and_from, and_parts, both_ways, cases_eq, eq-eqb, eqb-false, eqb-true, ne_eqb, not_from_false, not-true}
use Rattle.spaces.specs.Digits.{odd_or_even}
use Rattle.engines.specs.Members.{Equal, has, Only, Shared, Union}

-- the lowest digit, and those above it
has_first : (n : ℕ) → has 0 n ≡ eqb (n % 2) 1
has_first n = ap (λ k. eqb (k % 2) 1) (div-one n)

has_later : (q n : ℕ) → has (suc q) n ≡ has q (n / 2)
has_later q n = ap (λ k. eqb (n / 2 ^ k % 2) 1) (sym (one-add q)) ∙ ap (λ k. eqb (k % 2) 1) (sym (shr-shr n 1 q))

has_none : (q : ℕ) → has q 0 ≡ false
has_none q = ap (λ k. eqb (k % 2) 1) (zero-div (2 ^ q))

-- one digit
one_or : (x y : ℕ) → x < 2 → y < 2 → eqb (max x y) 1 ≡ (eqb x 1 || eqb y 1)
one_or zero zero a b = refl
one_or zero (suc zero) a b = refl
one_or (suc zero) zero a b = refl
one_or (suc zero) (suc zero) a b = refl
one_or x (suc (suc y)) a b = absurd (omega arith)
one_or (suc (suc x)) zero a b = absurd (omega arith)
one_or (suc (suc x)) (suc zero) a b = absurd (omega arith)

one_and : (x y : ℕ) → x < 2 → y < 2 → eqb (min x y) 1 ≡ (eqb x 1 && eqb y 1)
one_and zero zero a b = refl
one_and zero (suc zero) a b = refl
one_and (suc zero) zero a b = refl
one_and (suc zero) (suc zero) a b = refl
one_and x (suc (suc y)) a b = absurd (omega arith)
one_and (suc (suc x)) zero a b = absurd (omega arith)
one_and (suc (suc x)) (suc zero) a b = absurd (omega arith)

low_or : (x y : ℕ) → eqb (bit_or x y % 2) 1 ≡ (eqb (x % 2) 1 || eqb (y % 2) 1)
low_or x y =
    let low : bit_or x y % 2 ≡ max (x % 2) (y % 2) = omega (arith, or_step x y) in
    ap (λ d. eqb d 1) low ∙ one_or (x % 2) (y % 2) (omega arith) (omega arith)

low_and : (x y : ℕ) → eqb (bit_and x y % 2) 1 ≡ (eqb (x % 2) 1 && eqb (y % 2) 1)
low_and x y =
    let low : bit_and x y % 2 ≡ min (x % 2) (y % 2) = omega (arith, and_step x y) in
    ap (λ d. eqb d 1) low ∙ one_and (x % 2) (y % 2) (omega arith) (omega arith)

pub union_of : (a b : ℕ) → Union a b (bit_or a b)
union_of a b q = ap (λ k. eqb (k % 2) 1) (or_shr a b q) ∙ low_or (a / 2 ^ q) (b / 2 ^ q)

common : (a b q : ℕ) → has q (bit_and a b) ≡ (has q a && has q b)
common a b q = ap (λ k. eqb (k % 2) 1) (and_shr a b q) ∙ low_and (a / 2 ^ q) (b / 2 ^ q)

-- a number that is not 0 has a digit one
some_member : (d n : ℕ) → n ≤ d → (n ≡ 0 → ⊥) → (q : ℕ) × (has q n ≡ true)
some_member zero n le some = absurd (some (omega arith))
some_member (suc d) n le some =
    ⊎_elim
    (λ odd. (0, has_first n ∙ eq-eqb (n % 2) 1 odd))
    (λ even.
    let r = some_member d (n / 2) (omega arith) (λ z. some (omega arith)) in
    (suc r.0, has_later r.0 n ∙ r.1))
    (odd_or_even n)

pub shared_of : (a b : ℕ) (r : Bool) → r ≡ not (eqb (bit_and a b) 0) → Decides r (Shared a b)
shared_of a b r is = (
  λ t.
      let m = some_member (bit_and a b) (bit_and a b) (omega arith) (eqb-false (bit_and a b) 0 (not-true (eqb (bit_and a b) 0) (sym is ∙ t))) in
      let p = and_parts (has m.0 a) (has m.0 b) (sym (common a b m.0) ∙ m.1) in
      (m.0, p.0, p.1),
  λ s.
      let in_both : has s.0 (bit_and a b) ≡ true = common a b s.0 ∙ and_from (has s.0 a) (has s.0 b) s.1 s.2 in
      is ∙ not_from_false (eqb (bit_and a b) 0) (ne_eqb (bit_and a b) 0 (λ z. both_ways (has s.0 (bit_and a b)) (ap (has s.0) z ∙ has_none s.0) in_both)),
)

eqb_suc : (q t : ℕ) → eqb q t ≡ eqb (suc q) (suc t)
eqb_suc q t =
    ⊎_elim
    (λ e. eq-eqb q t e ∙ sym (eq-eqb (suc q) (suc t) (ap suc e)))
    (λ d. ne_eqb q t d ∙ sym (ne_eqb (suc q) (suc t) (λ e. d (omega arith))))
    (cases_eq q t)

-- the set of one relation
pub only_of : (t : ℕ) → Only t (2 ^ t)
only_of zero zero = refl
only_of (suc t) zero = has_first (2 ^ suc t) ∙ ne_eqb (2 ^ suc t % 2) 1 (λ e. omega (arith, pow-suc 2 t)) ∙ sym (ne_eqb 0 (suc t) (λ e. omega arith))
only_of zero (suc q) = has_later q 1 ∙ has_none q ∙ sym (ne_eqb (suc q) 0 (λ e. omega arith))
only_of (suc t) (suc q) =
    let half : 2 ^ suc t / 2 ≡ 2 ^ t = omega (arith, pow-suc 2 t) in
    has_later q (2 ^ suc t) ∙ ap (has q) half ∙ only_of t q ∙ eqb_suc q t

-- equal digits, equal numbers
one_same : (x y : ℕ) → x < 2 → y < 2 → eqb x 1 ≡ eqb y 1 → x ≡ y
one_same x y a b e =
    ⊎_elim
    (λ o. o ∙ sym (eqb-true y 1 (sym e ∙ eq-eqb x 1 o)))
    (λ n. let n' : y ≡ 1 → ⊥ = eqb-false y 1 (sym e ∙ ne_eqb x 1 n) in omega arith)
    (cases_eq x 1)

same_members : (d a b : ℕ) → a ≤ d → b ≤ d → Equal a b → a ≡ b
same_members zero a b la lb e = omega arith
same_members (suc d) a b la lb e =
    let low : a % 2 ≡ b % 2 = one_same (a % 2) (b % 2) (omega arith) (omega arith) (sym (has_first a) ∙ e 0 ∙ has_first b) in
    let high : a / 2 ≡ b / 2 = same_members d (a / 2) (b / 2) (omega arith) (omega arith) (λ q. sym (has_later q a) ∙ e (suc q) ∙ has_later q b) in
    omega arith

pub equal_of : (a b : ℕ) (r : Bool) → r ≡ eqb a b → Decides r (Equal a b)
equal_of a b r is =
    (λ t q. ap (has q) (eqb-true a b (sym is ∙ t)), λ e. is ∙ eq-eqb a b (same_members (a + b) a b (omega arith) (omega arith) e))
