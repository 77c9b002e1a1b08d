-- A memo of two relations: relation 1 with a scan and an index scan, relation 2 with a scan, and three joins of them.
use Rattle.std.specs.Prelude.{ℕ, List, [], ◌∷◌}
use Rattle.spaces.specs.declared.kind.Kind.{Kind}
use Rattle.spaces.specs.declared.kind.Kind.TheVariants.{HashJoin, IndexScan, MergeJoin, Scan}
use Rattle.spaces.specs.Spaces.{Meaning}
use Rattle.memos.specs.declared.fields.Record.{Record}
use Rattle.memos.specs.Memos.{Contents, space_of}

abbrev pub worked_file : List ℕ
worked_file =
    0x01 ∷ (0x03 ∷ (0x00
    ∷ (0x05 ∷ (0x00 ∷ (0x00 ∷ (0x01 ∷ (0x00
    ∷ (0x06 ∷ (0x01 ∷ (0x01 ∷ (0x00
    ∷ (0x05 ∷ (0x01 ∷ (0x00 ∷ (0x02 ∷ (0x00
    ∷ (0x1B ∷ (0x02 ∷ (0x00 ∷ (0x02 ∷ (0x00 ∷ (0x00 ∷ (0x01 ∷ (0x00
    ∷ (0x1A ∷ (0x02 ∷ (0x01 ∷ (0x00 ∷ (0x00 ∷ (0x00
    ∷ (0x1A ∷ (0x03 ∷ (0x00 ∷ (0x00 ∷ (0x01 ∷ (0x00
    ∷ []))))))))))))))))))))))))))))))))))))

abbrev pub entry : ℕ → Kind → ℕ → ℕ → ℕ → Record
entry g k t l r = record { goal = g; alternative = record { kind = k; tag = t; left = l; right = r } }

abbrev pub worked_memo : Contents
worked_memo = record {
  goals = 3;
  root = 2;
  records =
      entry 0 Scan 1 0 0
      ∷ (entry 0 IndexScan 1 0 0
      ∷ (entry 1 Scan 2 0 0
      ∷ (entry 2 HashJoin 0 0 1
      ∷ (entry 2 HashJoin 0 1 0
      ∷ (entry 2 MergeJoin 0 0 1
      ∷ [])))));
}

-- the space that the file opens to
abbrev pub worked_space : Meaning
worked_space = space_of worked_memo
