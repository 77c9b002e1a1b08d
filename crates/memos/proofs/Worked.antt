-- The worked memo, by computation.
use Rattle.std.proofs.Common.{◌≡◌, ◌<◌, take, Ok, Err, refl, ap, ◌∙◌, lit<}
use Rattle.std.specs.List.{AllByRecursion}
use Rattle.spaces.specs.Spaces.{Meaning}
use Rattle.memos.specs.declared.refusal.OpenRefusal.TheVariants.{RecordEnds}
use Rattle.memos.specs.Memos.{space_of}
use Rattle.memos.specs.Opens.{Encodes, Opened}
use Rattle.memos.specs.Reading.{read_records, reading}
use Rattle.memos.specs.Worked.{worked_file, worked_memo, worked_space}
use Rattle.memos.proofs.Format.{encodes_reading, reading_encodes}

pub worked_reads : reading worked_file ≡ Ok worked_memo
unfolding read_records
worked_reads = refl

-- without its last byte the file ends inside the record at 31
pub worked_cut : reading (take 36 worked_file) ≡ Err (RecordEnds 31)
unfolding read_records
worked_cut = refl

worked_bytes : AllByRecursion (λ b. b < 256) worked_file
worked_bytes = (lit< tt, (lit< tt, (lit< tt, (lit< tt, (lit< tt, (lit< tt, (lit< tt, (lit< tt, (lit< tt, (lit< tt, (lit< tt, (lit< tt, (lit< tt, (lit< tt, (lit< tt, (lit< tt, (lit< tt, (lit< tt, (lit< tt, (lit< tt, (lit< tt, (lit< tt, (lit< tt, (lit< tt, (lit< tt, (lit< tt, (lit< tt, (lit< tt, (lit< tt, (lit< tt, (lit< tt, (lit< tt, (lit< tt, (lit< tt, (lit< tt, (lit< tt, (lit< tt, tt)))))))))))))))))))))))))))))))))))))

pub worked_encodes : Encodes worked_file worked_memo
worked_encodes = reading_encodes worked_file worked_memo worked_bytes worked_reads

-- a view that the file was opened into is the worked space
pub worked_opened : (v : Meaning) → Opened worked_file v → v ≡ worked_space
worked_opened v o =
    let same : o.memo ≡ worked_memo = cc (encodes_reading worked_file o.memo o.encodes, worked_reads) in
    o.means ∙ ap space_of same
