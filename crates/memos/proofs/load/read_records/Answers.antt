use Rattle.std.proofs.Common.{◌≡◌, ℕ, ◌<◌, true, ltb, List, length, sym, refl, ap, ◌∙◌, inl, inr, arith, vec_len}
use Rattle.std.proofs.lemmas.Bool.{ltb-false, ltb-true}
use Rattle.std.proofs.lemmas.Result.{err_from_is_err_and}
use Rattle.memos.specs.Reading.{read_alone}
use Rattle.memos.specs.Slices.{sliced}
use Rattle.memos.proofs.Looping.{Turn, loop_bad, loop_end, loop_full, turn_again, turn_falls, turn_first, turn_last, turn_next}
use Rattle.memos.proofs.load.read_records.Goals.{In_ok-entry}
use Rattle.memos.proofs.load.read_records.Goals as goal

-- the place of the next record is within the file
more : (at : ℕ) (file now : List ℕ) → now ≡ file → true ≡ ltb at (length now) → at < length file
more at file now e t = omega (arith, ltb-true at (length now) (sym t), ap length e)

pub returns-then-len-ge-MOST_RECORDS : goal.returns-then-len-ge-MOST_RECORDS
returns-then-len-ge-MOST_RECORDS c =
    let l = c.loop-cursor in
    inr (loop_full _ _ _ _ _ _ _ l.invariant.reading (more _ _ _ l.invariant.file c.loop-cursor-test.ensures) (omega (arith, c.len.ensures, c.if-len-ge-MOST_RECORDS.true)))

pub returns-in_err-entry : goal.returns-in_err-entry
returns-in_err-entry c =
    let l = c.loop-cursor in
    let low : vec_len l.lists.starts ≡ c.len-in-loop-cursor.result = omega (arith, c.len-in-loop-cursor.ensures) in
    let bad = (λ i. read_alone (sym l.invariant.file i) c.args.goals (low i) l.cursor.at) ∙ c.in_err-entry.ensures.alone in
    let p = err_from_is_err_and c.from_residual.result c.from_residual.ensures.1 in
    rw (p.1, p.2) (inr (loop_bad _ _ _ _ _ _ _ l.invariant.reading c.in_err-entry.field-0.0 (more _ _ _ l.invariant.file c.loop-cursor-test.ensures) (omega (arith, c.len.ensures, c.if-len-ge-MOST_RECORDS.false)) bad))

turn : (c : goal.In_ok-entry) → Turn c.args.cursor.file.now c.args.goals c.args.cursor.at (sliced c.loop-cursor.lists.items.items c.loop-cursor.lists.starts.items) (vec_len c.loop-cursor.lists.starts) (vec_len c.loop-cursor.lists.items) c.loop-cursor.cursor.at (c.in_ok-entry.entry, c.read_alone.new.cursor.at)
turn c =
    let l = c.loop-cursor in
    let low : vec_len l.lists.starts ≡ c.len-in-loop-cursor.result = omega (arith, c.len-in-loop-cursor.ensures) in
    record {
      loop = l.invariant.reading;
      ahead = more _ _ _ l.invariant.file c.loop-cursor-test.ensures;
      room = omega (arith, c.len.ensures, c.if-len-ge-MOST_RECORDS.false);
      read = (λ i. read_alone (sym l.invariant.file i) c.args.goals (low i) l.cursor.at) ∙ c.in_ok-entry.ensures.alone;
    }

pub returns-then-repeated : goal.returns-then-repeated
returns-then-repeated c =
    inr (turn_again _ _ _ _ _ _ _ _ (turn (goal.at.returns-then-repeated c).In_ok-entry) (sym c.repeated.ensures ∙ c.if-repeated.true))

pub store-requires-clause-last : goal.store-requires-clause-last
store-requires-clause-last c = turn_last _ _ _ _ _ _ _ _ (turn (goal.at.store-requires-clause-last c).In_ok-entry)

pub returns-in_err-store : goal.returns-in_err-store
returns-in_err-store c =
    let p = err_from_is_err_and c.from_residual-in_err-store.result c.from_residual-in_err-store.ensures.1 in
    rw (p.1, p.2) (inl (refl, turn_first _ _ _ _ _ _ _ _ (turn (goal.at.returns-in_err-store c).In_ok-entry) (sym c.repeated.ensures ∙ c.if-repeated.false)))

pub loop-cursor-smaller : goal.loop-cursor-smaller
loop-cursor-smaller c =
    omega (arith, turn_falls _ _ _ _ _ _ _ _ (turn (goal.at.loop-cursor-smaller c).In_ok-entry), ap length c.read_alone.ensures.file, ap length c.loop-cursor.invariant.file)

pub loop-cursor-preserved : goal.loop-cursor-preserved
loop-cursor-preserved c = record {
  file = c.in_ok-entry.ensures.file ∙ c.loop-cursor.invariant.file;
  reading = rw (c.in_ok-store.ensures.lens.0, c.in_ok-store.ensures.lens.1) (turn_next _ _ _ _ _ _ _ _ (turn (goal.at.loop-cursor-preserved c).In_ok-entry) (sym c.repeated.ensures ∙ c.if-repeated.false) _ c.in_ok-store.ensures.lists);
}

pub returns : goal.returns
returns c =
    let l = c.loop-cursor in
    loop_end _ _ _ _ _ _ _ l.invariant.reading (omega (arith, ltb-false l.cursor.at (length l.cursor.file.now) (sym c.loop-cursor-test.ensures), ap length l.invariant.file))
