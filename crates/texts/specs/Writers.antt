-- What writing into a buffer does.
use Rattle.std.specs.Prelude.{◌≡◌, ℕ, ◌+◌, ◌≤◌, List, length}
use Rattle.texts.specs.declared.writer.Writer.{Writer}
use Rattle.texts.specs.Layout.{laid}

-- the bytes fit in after what is written
abbrev pub HasSpace : Writer → List ℕ → Type 0
HasSpace w bytes = w.at + length bytes ≤ length w.out.now

-- the bytes have been written, and nothing else; the next goes after them
pub record Writes (old new : Writer) (bytes : List ℕ) : Type 0 where
  pub same_buffer : new.out.ghost_name ≡ old.out.ghost_name
  pub at : new.at ≡ old.at + length bytes
  pub long : length new.out.now ≡ length old.out.now
  pub laid : new.out.now ≡ laid old.at bytes old.out.now
