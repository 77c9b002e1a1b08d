-- The lines of the plans that have given numbers.
use Rattle.std.proofs.Common.{◌≡◌, ℕ, zero, suc, ◌+◌, ◌*◌, ◌<◌, ◌≤◌, false, ◌||◌, leb, List, [], ◌∷◌, ◌++◌, length, get_or, take, drop, sym, refl, ap, ◌∙◌, subst, append_assoc, append-nil, arith, length-append}
use Rattle.std.specs.List.{list_any}
use Rattle.std.proofs.lemmas.List.{drop_all, drop_more, take_at}
use Rattle.std.proofs.lemmas.Bool.{leb-false, or_parts}
use Rattle.spaces.specs.Spaces.{Lawful, Meaning}
use Rattle.numbering.specs.declared.node.Node.{Node}
use Rattle.numbering.specs.Numbers.{Numbers}
use Rattle.numbering.specs.Plans.{nodes}
use Rattle.numbering.specs.Refusals.{plans}
use Rattle.numbering.specs.Standing.{Written}
use Rattle.numbering.proofs.Numberings.{numbering}
use Rattle.texts.specs.declared.writer.Writer.{Writer}
use Rattle.texts.specs.Listed.{text}
use Rattle.texts.specs.Reports.{AreLines, IsLine, Measured, Put, any_past, more, none}
use Rattle.texts.specs.Texts.{line}
use Rattle.texts.specs.Writers.{HasSpace, Writes}
use Rattle.texts.proofs.TreeTexts.{text_tree}
use Rattle.texts.proofs.Writers.{space_after, writes_append}

-- ---- numbers that no plan has

pub any_past_list : (n : ℕ) (xs : List ℕ) → any_past n xs ≡ list_any (leb n) xs
any_past_list n [] = refl
any_past_list n (x ∷ xs) = ap (λ b. leb n x || b) (any_past_list n xs)

pub each_below : (n : ℕ) (xs : List ℕ) → any_past n xs ≡ false → (i : ℕ) → i < length xs → get_or xs i 0 < n
each_below n [] e i h = absurd (omega arith)
each_below n (x ∷ xs) e zero h = leb-false n x (or_parts (leb n x) (any_past n xs) e).0
each_below n (x ∷ xs) e (suc i) h = each_below n xs (or_parts (leb n x) (any_past n xs) e).1 i (omega arith)

past_drop : (n : ℕ) (xs : List ℕ) → any_past n xs ≡ false → (i : ℕ) → any_past n (drop i xs) ≡ false
past_drop n xs e zero = e
past_drop n [] e (suc i) = refl
past_drop n (x ∷ xs) e (suc i) = past_drop n xs (or_parts (leb n x) (any_past n xs) e).1 i

-- ---- one line for each number

module _ (m : Meaning) (law : Lawful m) where
  pub is_line : (x : ℕ) (list : List Node) → Numbers m list x → IsLine m x (line x (text list))
  is_line x list p =
      record { plan = p.0; numbered = p.2; same = ap (line x) (ap text (sym p.1) ∙ text_tree p.0) }

  one_line : (x : ℕ) (a b : List ℕ) → IsLine m x a → IsLine m x b → a ≡ b
  one_line x a b p q =
      let t = p.plan in
      let s = q.plan in
      let list : nodes t ≡ nodes s = (numbering m law).one_list (nodes t) (nodes s) x (t, refl, p.numbered) (s, refl, q.numbered) in
      p.same ∙ ap (line x) (sym (text_tree t) ∙ ap text list ∙ text_tree s) ∙ sym q.same

  pub one_report : (xs a b : List ℕ) → AreLines m xs a → AreLines m xs b → a ≡ b
  one_report [] a b none none = refl
  one_report (x ∷ xs) a b (more {bytes = l} {rest = r} p ps) (more {bytes = k} {rest = s} q qs) =
      ap (λ y. y ++ r) (one_line x l k p q) ∙ ap (λ y. k ++ y) (one_report xs r s ps qs)

  pub every_report : (xs : List ℕ) → any_past (plans m) xs ≡ false → (bytes : List ℕ) × AreLines m xs bytes
  every_report [] e = ([], none)
  every_report (x ∷ xs) e =
      let both = or_parts (leb (plans m) x) (any_past (plans m) xs) e in
      let found = (numbering m law).every_number x (leb-false (plans m) x both.0) in
      let later = every_report xs both.1 in
      (line x (text found.0) ++ later.0, more (is_line x found.0 found.1) later.1)

  -- ---- a plan's line, once the plan is written

  part : (x n : ℕ) (old new : List Node) (w : Written m x n old new) → take n new ≡ w.list
  part x n old new w = ap (take n) w.buffer ∙ take_at w.list (drop n old) n (sym w.long)

  pub written_fits : (x n : ℕ) (old new : List Node) → Written m x n old new → n ≤ length new
  written_fits x n old new w = omega (arith, w.long, ap length w.buffer, length-append w.list (drop n old))

  pub written_long : (x n : ℕ) (old new : List Node) → Written m x n old new → n ≡ length (take n new)
  written_long x n old new w = w.long ∙ sym (ap length (part x n old new w))

  pub written_line : (x n : ℕ) (old new : List Node) → Written m x n old new → IsLine m x (line x (text (take n new)))
  written_line x n old new w = subst (λ list. IsLine m x (line x (text list))) (sym (part x n old new w)) (is_line x w.list w.numbers)

  pub written_few : (x n : ℕ) (old new : List Node) → Written m x n old new → length (take n new) ≤ 1024
  written_few x n old new w = omega (arith, ap length (part x n old new w), w.long, w.small)

  -- ---- the loops: what is measured or written so far, and what is left

  module _ (xs : List ℕ) where
    here : (i : ℕ) (l rest : List ℕ) → i < length xs → IsLine m (get_or xs i 0) l → AreLines m (drop (i + 1) xs) rest → AreLines m (drop i xs) (l ++ rest)
    here i l rest h p ps = subst (λ ys. AreLines m ys (l ++ rest)) (sym (drop_more xs i 0 h)) (more p ps)

    ended : (i : ℕ) → length xs ≤ i → AreLines m (drop i xs) []
    ended i h = subst (λ ys. AreLines m ys []) (sym (drop_all i xs h)) none

    -- the lines so far, and those that are left
    pub record Lines (i : ℕ) : Type 0 where
      pub part : List ℕ
      pub splits : (rest : List ℕ) → AreLines m (drop i xs) rest → AreLines m xs (part ++ rest)

    abbrev no_lines : Lines 0
    no_lines = record { part = []; splits = λ rest p. p }

    abbrev more_lines : (i : ℕ) → i < length xs → Lines i → (l : List ℕ) → IsLine m (get_or xs i 0) l → Lines (i + 1)
    more_lines i h before l p =
        record {
          part = before.part ++ l;
          splits = λ rest ps. subst (AreLines m xs) (sym (append_assoc before.part l rest)) (before.splits (l ++ rest) (here i l rest h p ps));
        }

    all_lines : (i : ℕ) → length xs ≤ i → (before : Lines i) (bytes : List ℕ) → AreLines m xs bytes → before.part ≡ bytes
    all_lines i h before bytes p = sym (append-nil before.part) ∙ one_report xs (before.part ++ []) bytes (before.splits [] (ended i h)) p

    pub record Measuring (i total : ℕ) : Type 0 where
      pub lines : Lines i
      pub is : total ≡ length lines.part
      pub few : total ≤ 15382 * i

    pub measuring_start : Measuring 0 0
    measuring_start = record { lines = no_lines; is = refl; few = omega arith }

    pub measuring_more : (i total r : ℕ) → i < length xs → Measuring i total → Measured m (get_or xs i 0) r → Measuring (i + 1) (total + r)
    measuring_more i total r h before l =
        record {
          lines = more_lines i h before.lines l.bytes l.line;
          is = omega (arith, before.is, l.long, length-append before.lines.part l.bytes);
          few = omega (arith, before.few, l.few);
        }

    pub measuring_end : (i total : ℕ) → length xs ≤ i → Measuring i total → (bytes : List ℕ) → AreLines m xs bytes → total ≡ length bytes
    measuring_end i total h before bytes p = before.is ∙ ap length (all_lines i h before.lines bytes p)

    pub record Writing (i : ℕ) (old new : Writer) : Type 0 where
      pub lines : Lines i
      pub writes : Writes old new lines.part

    pub writing_start : (w : Writer) → Writing 0 w w
    writing_start w = record { lines = no_lines; writes = record { same_buffer = refl; at = omega arith; long = refl; laid = refl } }

    -- a line has room, since all lines have
    pub writing_room : (i : ℕ) (old new : Writer) → i < length xs → any_past (plans m) xs ≡ false → Writing i old new →
        ((bytes : List ℕ) → AreLines m xs bytes → HasSpace old bytes) → (l : List ℕ) → IsLine m (get_or xs i 0) l → HasSpace new l
    writing_room i old new h below before fits l p =
        let later = every_report (drop (i + 1) xs) (past_drop (plans m) xs below (i + 1)) in
        let all = before.lines.splits (l ++ later.0) (here i l later.0 h p later.1) in
        omega (arith, space_after old new before.lines.part (l ++ later.0) (fits (before.lines.part ++ (l ++ later.0)) all) before.writes, length-append l later.0)

    pub writing_more : (i : ℕ) (old now new : Writer) → i < length xs → Writing i old now → Put m (get_or xs i 0) now new → Writing (i + 1) old new
    writing_more i old now new h before l =
        record { lines = more_lines i h before.lines l.bytes l.line; writes = writes_append old now new before.lines.part l.bytes before.writes l.writes }

    pub writing_end : (i : ℕ) (old new : Writer) → length xs ≤ i → Writing i old new → (bytes : List ℕ) → AreLines m xs bytes → Writes old new bytes
    writing_end i old new h before bytes p = subst (Writes old new) (all_lines i h before.lines bytes p) before.writes
