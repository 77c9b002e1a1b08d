-- How a text grows in its buffer: written at its front, while the closing marks that are still due wait at its back.
use Rattle.std.specs.Prelude.{◌≡◌, ℕ, zero, suc, ◌+◌, ◌≤◌, cond, List, [], ◌∷◌, ◌++◌, length, ◌==◌, slice_set}
use Rattle.std.specs.List.{between}
use Rattle.spaces.specs.Kinds.{arity}
use Rattle.numbering.specs.declared.node.Node.{Node}
use Rattle.texts.specs.Listed.{first, flat, rest, texts}
use Rattle.texts.specs.Texts.{label}

-- bytes written one after another from the index i on
abbrev pub laid : ℕ → List ℕ → List ℕ → List ℕ
laid i [] out = out
laid i (b ∷ bs) out = laid (suc i) bs (slice_set out i b)

-- how many marks a node adds for its children: none, '()' or '(,)'
abbrev pub marks : ℕ → ℕ
marks zero = 0
marks (suc zero) = 2
marks (suc (suc k)) = 3

-- how many bytes of the text are a node's own
abbrev pub own_size : Node → ℕ
own_size n = length (label n) + marks (arity n.alternative.kind)

unfoldable pub text_size : List Node → ℕ
text_size [] = 0
text_size (n ∷ ns) = own_size n + text_size ns

-- of the marks due, the next first: those up to the first comma, which a leaf lets out, and those after it
abbrev pub closing : List ℕ → List ℕ
closing [] = []
closing (c ∷ s) = c ∷ cond (c == 44) [] (closing s)

abbrev pub opening : List ℕ → List ℕ
opening [] = []
opening (c ∷ s) = cond (c == 44) s (opening s)

-- what is left to write when a plan has been written, where s are the marks due and ts the texts to come
abbrev pub after : List ℕ → List (List ℕ) → List ℕ
after [] ts = flat ts
after (c ∷ s) ts = c ∷ cond (c == 44) (first ts ++ after s (rest ts)) (after s ts)

-- what is left to write when a plan is next
abbrev pub ahead : List ℕ → List (List ℕ) → List ℕ
ahead s ts = first ts ++ after s (rest ts)

-- a node has been written at i, where the marks due stood from top to end: the text goes on at p with the marks due from t on, and comes out the same
pub record Turned (n : Node) (i top end : ℕ) (old new : List ℕ) (p t : ℕ) : Type 0 where
  pub same : (ns : List Node) → top ≡ i + (own_size n + text_size ns) → laid p (ahead (between t end new) (texts ns)) new ≡ laid i (ahead (between top end old) (texts (n ∷ ns))) old
  pub room : (k : ℕ) → top ≡ i + (own_size n + k) → t ≡ p + k
  pub within : t ≤ end
