-- Numerals, digit by digit from the last.
use Rattle.std.proofs.Common.{◌≡◌, ℕ, zero, suc, ◌+◌, ◌*◌, ◌/◌, ◌%◌, ◌^◌, ◌<◌, ◌≤◌, List, length, set, decimal, sym, ap, ◌∙◌, ⊎_elim, zero-lt-suc, pow-suc, arith}
use native.Mathlib.Nat.{pow-le-pow_right}
use Rattle.std.proofs.lemmas.Fmt.{decimal_digit, decimal_nonempty, decimal_step, length-decimal-le}
use Rattle.std.proofs.lemmas.Bool.{cases_lt}
use Rattle.std.proofs.lemmas.List.{length_push}
use Rattle.texts.specs.Layout.{laid}
use Rattle.texts.proofs.Laid.{laid_push}

pub size_step : (n : ℕ) → 10 ≤ n → n < 2 ^ 64 → length (decimal n) ≡ length (decimal (n / 10)) + 1
size_step n ten h = ap length (decimal_step n ten h) ∙ length_push (decimal (n / 10)) (48 + n % 10)

pub size_one : (n : ℕ) → n < 10 → length (decimal n) ≡ 1
size_one n h = ap length (decimal_digit n h)

pub size_most : (n : ℕ) → n < 2 ^ 64 → length (decimal n) ≤ 20
size_most n h = length-decimal-le 20 n (omega arith) (omega arith) h

pub size_small : (n : ℕ) → n < 2 ^ 16 → length (decimal n) ≤ 5
size_small n h = length-decimal-le 5 n (omega arith) (omega arith) (omega arith)

-- by its logarithm
pub size_log : (k n : ℕ) → 10 ^ k ≤ n → n < 10 * 10 ^ k → n < 2 ^ 64 → length (decimal n) ≡ k + 1
size_log zero n low high h = size_one n (omega arith)
size_log (suc k) n low high h =
    let p : 10 ^ suc k ≡ 10 ^ k * 10 = pow-suc 10 k in
    let from : 0 ≤ k = omega arith in
    let some : 10 ^ 0 ≤ 10 ^ k = pow-le-pow_right (zero-lt-suc 9) from in
    omega (arith, size_step n (omega arith) h, size_log k (n / 10) (omega arith) (omega arith) (omega arith))

-- whether more than one digit is left
pub more_left : (n : ℕ) → 1 < length (decimal n) → 10 ≤ n
more_left n h = ⊎_elim (λ (lt : n < 10). absurd (omega (arith, size_one n lt))) (λ (le : 10 ≤ n). le) (cases_lt n 10)

pub one_left : (n : ℕ) → n < 2 ^ 64 → length (decimal n) ≤ 1 → n < 10
one_left n small h =
    ⊎_elim (λ (lt : n < 10). lt) (λ (le : 10 ≤ n). absurd (omega (arith, size_step n le small, decimal_nonempty (n / 10) (omega arith)))) (cases_lt n 10)

-- the last digit of what is left is written at j
pub laid_digit : (n i j : ℕ) (out : List ℕ) → 10 ≤ n → n < 2 ^ 64 → j + 1 ≡ i + length (decimal n) →
    laid i (decimal (n / 10)) (set out j (48 + n % 10)) ≡ laid i (decimal n) out
laid_digit n i j out ten h e =
    let f : i + length (decimal (n / 10)) ≡ j = omega (arith, size_step n ten h) in
    sym (ap (λ ds. laid i ds out) (decimal_step n ten h)
    ∙ laid_push i (decimal (n / 10)) out (48 + n % 10)
    ∙ ap (λ k. laid i (decimal (n / 10)) (set out k (48 + n % 10))) f)

pub laid_leading : (n i : ℕ) (out : List ℕ) → n < 10 → set out i (48 + n) ≡ laid i (decimal n) out
laid_leading n i out h = sym (ap (λ ds. laid i ds out) (decimal_digit n h))
