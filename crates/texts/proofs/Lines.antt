-- A plan's line.
use Rattle.std.proofs.Common.{◌≡◌, ℕ, ◌+◌, List, [], ◌∷◌, ◌++◌, length, decimal, ◌∙◌, arith, length-append}
use Rattle.texts.specs.Texts.{line}

pub line_size : (x : ℕ) (bytes : List ℕ) → length (line x bytes) ≡ length (decimal x) + (2 + length bytes)
unfolding line
line_size x bytes = length-append (decimal x) (32 ∷ (bytes ++ (10 ∷ []))) ∙ omega (arith, length-append bytes (10 ∷ []))
