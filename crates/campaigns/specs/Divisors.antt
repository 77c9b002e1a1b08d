-- Divisors by remainders: `a % d ≡ 0` says that d divides a, and 0 divides 0 alone.
use Rattle.std.specs.Prelude.{◌≡◌, ℕ, zero, suc, ◌%◌, ◌<◌, Bool, false, ◌&&◌, ◌||◌, ◌==◌, ◌≢◌, nat_lt}

-- each of two statements follows from the other
abbrev pub Exactly : Type 0 → Type 0 → Type 0
Exactly A B = (A → B) × (B → A)

-- no number above 1 divides both
abbrev pub Coprime : ℕ → ℕ → Type 0
Coprime a b = (d : ℕ) → 1 < d → a % d ≡ 0 → b % d ≢ 0

-- some number from 2 to `most` divides both
abbrev pub shares : ℕ → ℕ → ℕ → Bool
shares a b zero = false
shares a b (suc d) = shares a b d || (nat_lt 1 (suc d) && (a % suc d == 0 && b % suc d == 0))
