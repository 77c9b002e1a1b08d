-- Sets of kinds as numbers: the binary digit k is 1 where the kind with the number k is in the set.
use Rattle.std.specs.Prelude.{ℕ, ◌/◌, ◌%◌, ◌^◌, Bool, cond, Some, None, Option, ◌==◌}
use Rattle.spaces.specs.declared.kind.Kind.{Kind}
use Rattle.spaces.specs.declared.refusal.MakeRefusal.{MakeRefusal}
use Rattle.spaces.specs.declared.refusal.MakeRefusal.TheVariants.{NoSuchKind}
use Rattle.spaces.specs.declared.space.Alternative.{Alternative}
use Rattle.spaces.specs.Kinds.{code}

-- the reason not to make a set of a byte: its digit 7 is 1, and no kind has the number 7
abbrev pub mask_refusal : ℕ → Option MakeRefusal
mask_refusal bits = cond (bits / 2 ^ 7 % 2 == 1) (Some NoSuchKind) None

-- whether a kind is in a set
abbrev pub holds : ℕ → Kind → Bool
holds bits k = bits / 2 ^ code k % 2 == 1

-- whether an alternative's kind is in a set
abbrev pub passes : ℕ → Alternative → Bool
passes bits a = holds bits a.kind
