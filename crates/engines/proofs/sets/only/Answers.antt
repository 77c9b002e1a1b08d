use Rattle.std.proofs.Common.{ap, ◌∙◌}
use Rattle.std.proofs.lemmas.Nat.{one_shl}
use Rattle.engines.specs.Members.{has}
use Rattle.engines.proofs.Members.{only_of}
use Rattle.engines.proofs.sets.only.Goals as goal

pub returns-clause-members : goal.returns-clause-members
returns-clause-members c = λ q. ap (has q) (one_shl c.args.relation 64 c.requires) ∙ only_of c.args.relation q
