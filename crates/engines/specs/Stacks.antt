-- The results on a stack.
use Rattle.std.specs.Prelude.{List, drop}
use Rattle.engines.specs.declared.stack.Stack.{Stack}

-- the results, the last laid first
abbrev pub held : {V : Type 0} → Stack V → List V
held s = drop s.top s.values.now
