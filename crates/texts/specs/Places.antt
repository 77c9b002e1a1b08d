-- The byte that an error of a text names.
use Rattle.std.specs.Prelude.{ℕ, Some, None, Option}
use Rattle.texts.specs.declared.error.TextError.{TextError}
use Rattle.texts.specs.declared.error.TextError.TheVariants.{BytesFollow, NoMark, NoMemory, NoNode}

abbrev pub place : TextError → Option ℕ
place (NoNode p) = Some p
place (NoMark p) = Some p
place (BytesFollow p) = Some p
place NoMemory = None
