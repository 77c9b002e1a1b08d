-- The laws of the layer that keeps only some kinds.
use Rattle.std.proofs.Common.{ap, arith}
use Rattle.std.specs.Prelude.{ℕ, filter}
use Rattle.std.proofs.ByRecursion.{all_kept_by}
use Rattle.spaces.specs.Filters.{filtered}
use Rattle.spaces.specs.Masks.{passes}
use Rattle.spaces.specs.Spaces.{Lawful, Meaning, Sound}
use Rattle.spaces.specs.Lists.{apart_kept, kept_shorter}

pub filtered_lawful : (m : Meaning) (bits : ℕ) → Lawful m → Lawful (filtered m bits)
filtered_lawful m bits w = record {
  few = w.few;
  root_below = w.root_below;
  root_none = w.root_none;
  outside = λ g out. ap (filter (passes bits)) (w.outside g out);
  narrow = λ g. omega (arith, kept_shorter (passes bits) (m.lists g), w.narrow g);
  sound = λ g. all_kept_by (passes bits) (Sound g) (m.lists g) (w.sound g);
  distinct = λ g. apart_kept (passes bits) (m.lists g) (w.distinct g);
}
