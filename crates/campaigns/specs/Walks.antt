-- The walk through the numbers below n by steps of one length.
use Rattle.std.specs.Prelude.{ℕ, ◌+◌, ◌*◌, ◌%◌}

-- where the walk stands after k steps
abbrev pub walk : ℕ → ℕ → ℕ → ℕ → ℕ
walk n start step k = (start + k * step) % n
