-- The loop over the records of a file.
use Rattle.std.proofs.Common.{◌≡◌, ℕ, ◌+◌, ◌-◌, ◌<◌, ◌≤◌, true, false, ◌⊎◌, List, [], ◌∷◌, ◌++◌, length, Ok, Err, sym, ap, ◌∙◌, inl, inr, arith}
use Rattle.spaces.specs.declared.space.Alternative.{Alternative}
use Rattle.memos.specs.declared.refusal.OpenRefusal.{OpenRefusal}
use Rattle.memos.specs.declared.refusal.OpenRefusal.TheVariants.{ManyRecords, Repeated}
use Rattle.memos.specs.declared.fields.Record.{Record}
use Rattle.memos.specs.Memos.{listing}
use Rattle.memos.specs.Rules.{among}
use Rattle.memos.specs.Reading.{read_alone, read_records, read_record}
use Rattle.memos.specs.Opens.{Built, FirstFits, ReadAll, Stored}
use Rattle.memos.proofs.Alone.{Alone, alone_sound}
use Rattle.memos.proofs.Steps.{record_good, record_again, record_bad, records_next, records_fault, records_full, records_done}
use Rattle.memos.proofs.Answered.{refusal}
use Rattle.memos.proofs.Building.{built_store}
use Rattle.memos.proofs.Runs.{record_first}

-- nothing was read yet
pub record Fresh (from : ℕ) (sofar : List Record) (low at : ℕ) : Type 0 where
  pub nothing : sofar ≡ []
  pub lowest : low ≡ 0
  pub here : at ≡ from

pub record Loop (file : List ℕ) (goals from : ℕ) (lists : ℕ → List Alternative) (low count at : ℕ) : Type 0 where
  pub sofar : List Record
  pub built : Built sofar lists
  pub target : read_records 4096 file goals [] 0 from ≡ read_records (4096 - count) file goals sofar low at
  pub few : low ≤ goals
  pub inside : at ≤ length file
  pub begun : Fresh from sofar low at ⊎ FirstFits file goals from

module _ (file : List ℕ) (goals from : ℕ) (lists : ℕ → List Alternative) (low count at : ℕ) (l : Loop file goals from lists low count at) where
  pub loop_end : length file ≤ at → ReadAll file goals from lists
  loop_end h = record {
    records = l.sofar;
    read = l.target ∙ records_done file goals l.sofar low at (4096 - count) h;
    built = l.built;
  }

  pub loop_full : at < length file → 4096 ≤ count → read_records 4096 file goals [] 0 from ≡ Err (ManyRecords at)
  loop_full h n = l.target ∙ records_full file goals l.sofar low at count n h

  pub loop_bad : (f : OpenRefusal) → at < length file → count < 4096 → read_alone file goals low at ≡ Err f → read_records 4096 file goals [] 0 from ≡ Err f
  loop_bad f h n e =
      l.target ∙ records_fault file goals l.sofar low at count f n h (record_bad file goals l.sofar low at f e)

-- a record by itself is in order
pub record Turn (file : List ℕ) (goals from : ℕ) (lists : ℕ → List Alternative) (low count at : ℕ) (p : Record × ℕ) : Type 0 where
  pub loop : Loop file goals from lists low count at
  pub ahead : at < length file
  pub room : count < 4096
  pub read : read_alone file goals low at ≡ Ok p

module _ (file : List ℕ) (goals from : ℕ) (lists : ℕ → List Alternative) (low count at : ℕ) (p : Record × ℕ) (t : Turn file goals from lists low count at p) where
  alone : Alone file goals low at p.0 p.1
  alone = alone_sound file goals low at p t.ahead t.loop.few t.read

  pub turn_last : low ≤ p.0.goal + 1
  turn_last = alone.rises

  pub turn_falls : length file - p.1 < length file - at
  turn_falls = omega (arith, alone.ahead, alone.inside)

  same_list : among (lists p.0.goal) p.0.alternative ≡ among (listing t.loop.sofar p.0.goal) p.0.alternative
  same_list = ap (λ xs. among xs p.0.alternative) (t.loop.built p.0.goal)

  pub turn_again : among (lists p.0.goal) p.0.alternative ≡ true → read_records 4096 file goals [] 0 from ≡ Err (Repeated at)
  turn_again e =
      t.loop.target ∙ records_fault file goals t.loop.sofar low at count (Repeated at) t.room t.ahead (record_again file goals t.loop.sofar low at p t.read (sym same_list ∙ e))

  module _ (new : among (lists p.0.goal) p.0.alternative ≡ false) where
    good : read_record file goals t.loop.sofar low at ≡ Ok p
    good = record_good file goals t.loop.sofar low at p t.read (sym same_list ∙ new)

    -- so the first record is in order too
    pub turn_first : FirstFits file goals from
    turn_first = elim t.loop.begun [
      | inl f ↦ (let here : from ≡ at = sym f.here in
          let is : read_record file goals [] 0 from ≡ Ok p = (λ i. read_record file goals (sym f.nothing i) (sym f.lowest i) (here i)) ∙ good in
          (omega (arith, t.ahead), sym (record_first file goals [] 0 from) ∙ ap refusal is))
      | inr f ↦ f
    ]

    pub turn_next : (more : ℕ → List Alternative) → Stored lists more p.0 → Loop file goals from more (p.0.goal + 1) (count + 1) p.1
    turn_next more s = record {
      sofar = t.loop.sofar ++ (p.0 ∷ []);
      built = built_store t.loop.sofar lists more p.0 t.loop.built s;
      target = t.loop.target ∙ records_next file goals t.loop.sofar low at count p t.room t.ahead good;
      few = omega (arith, alone.within);
      inside = alone.inside;
      begun = inr turn_first;
    }
