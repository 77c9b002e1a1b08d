-- The numbers of the refusals to make a space or a layer.
use Rattle.std.specs.Prelude.{ℕ, cond, ◌||◌, Some, None, Option, ◌==◌, nat_lt}
use Rattle.spaces.specs.declared.kind.Kind.{Kind}
use Rattle.spaces.specs.declared.refusal.MakeRefusal.{MakeRefusal}
use Rattle.spaces.specs.declared.refusal.MakeRefusal.TheVariants.{NoJoin, NoSuchKind, Relations}
use Rattle.spaces.specs.Kinds.{arity}

abbrev pub number : MakeRefusal → ℕ
number Relations = 15
number NoJoin = 16
number NoSuchKind = 17

-- the first reason not to make the bushy trees over n relations
abbrev pub bushy_refusal : ℕ → Kind → Option MakeRefusal
bushy_refusal n join =
    cond (nat_lt n 1 || nat_lt 10 n) (Some Relations)
    (cond (arity join == 2) None (Some NoJoin))
