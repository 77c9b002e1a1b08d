use Rattle.std.proofs.Common.{[], ◌∷◌, refl, arith}
use lib.Count.{ones, count_trailing_zeros}
use Rattle.std.specs.Fmt.{digits}
use Rattle.memos.proofs.Worked.{worked_encodes}
use Rattle.numbering.specs.Beginnings.{list_ends}
use Rattle.numbering.specs.Plans.{count, size}
use Rattle.spaces.specs.Bushes.{deposit}
use Rattle.spaces.specs.declared.kind.Kind.TheVariants.{Scan}
use Rattle.worked.proofs.Breaks.{three_nodes}
use Rattle.worked.proofs.Samples.{eleventh, fifth, third, zeroth}
use Rattle.worked.proofs.rows.worked_rows.Goals as goal
use Rattle.worked.specs.Rows.{at_node}

pub returns : goal.returns
unfolding count size deposit digits ones count_trailing_zeros
returns c = record {
  count = refl;
  stand = (
    worked_encodes,
    (
      (refl, refl),
      (
        (refl, refl),
        (
          (refl, refl),
          (
            refl,
            (
              (third, refl, refl),
              (
                (third, refl, refl),
                (
                  (fifth, refl, refl),
                  (
                    (eleventh, refl, refl),
                    (
                      list_ends 2 1
                          (record {
                            incomplete = λ p. let three = three_nodes p.0 _ _ 0 1 p.1 refl refl in omega arith;
                            within = omega arith;
                            begins = λ some. (at_node 1 Scan 2 0 0 ∷ [], (zeroth, refl));
                            none = λ e. omega arith;
                            no_longer = λ q more few b. omega arith;
                          }) refl refl,
                      (
                        refl,
                        (
                          (refl, refl),
                          (refl, tt),
                        ),
                      ),
                    ),
                  ),
                ),
              ),
            ),
          ),
        ),
      ),
    ),
  );
}
