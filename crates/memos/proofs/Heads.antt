-- The header: what is read is what is written.
use Rattle.std.proofs.Common.{◌≡◌, ℕ, suc, ◌+◌, ◌-◌, ◌*◌, ◌/◌, ◌%◌, ◌<◌, ◌≤◌, Bool, true, false, cond, ◌&&◌, ◌||◌, eqb, ltb, leb, List, ◌∷◌, ◌++◌, length, get_or, drop, is_some, Some, None, Option, unwrap_or, sym, refl, ap, ◌∙◌, inl, inr, arith, length-append}
use Rattle.std.specs.List.{AllByRecursion}
use Rattle.std.proofs.lemmas.Bool.{both_ways, or_parts, or_from, ltb-false, leb-false, eqb-false, eqb-true, lt-ltb, le-ltb, lt-leb, ne_eqb, eq-eqb, and_cases, and_right}
use Rattle.std.proofs.lemmas.List.{drop_more}
use Rattle.memos.specs.Memos.{digit, word, unless, provided, header_bytes}
use Rattle.memos.specs.Rules.{first, word_at, bit_at, header_end, header_rules}
use Rattle.memos.specs.Reading.{root_at}
use Rattle.memos.proofs.Parts.{length_word, digit_bit, digit_small, bit_digit, some_provided, word_part, word_field, at_front, drop_front, word_back}
use Rattle.memos.proofs.Rules.{first_all, all_first}

root_is : (b : Bool) (goals w : ℕ) → 1 ≤ goals → (b && leb (goals - 1) w) ≡ false → (provided b w ≡ unless (goals - 1) (unwrap_or (provided b w) (goals - 1))) × (unwrap_or (provided b w) (goals - 1) < goals)
root_is true goals w h e =
    let l : w < goals - 1 = leb-false (goals - 1) w e in
    (sym (ap (λ t. cond t None (Some w)) (ne_eqb w (goals - 1) (λ z. omega arith))), omega arith)
root_is false goals w h e = (sym (ap (λ t. cond t None (Some (goals - 1))) (eq-eqb (goals - 1) (goals - 1) refl)), omega arith)

root_back : (goals root w : ℕ) → root < goals → provided (is_some (unless (goals - 1) root)) w ≡ unless (goals - 1) root → ((is_some (unless (goals - 1) root) && leb (goals - 1) w) ≡ false) × (unwrap_or (unless (goals - 1) root) (goals - 1) ≡ root)
root_back goals root w h e =
    let P : Bool → Type 0 = λ t. eqb root (goals - 1) ≡ t → provided (is_some (cond {A = Option ℕ} t None (Some root))) w ≡ cond t None (Some root) → ((is_some (cond {A = Option ℕ} t None (Some root)) && leb (goals - 1) w) ≡ false) × (unwrap_or (cond {A = Option ℕ} t None (Some root)) (goals - 1) ≡ root) in
    let q : P (eqb root (goals - 1)) = elim (eqb root (goals - 1)) as P [
      | true ↦ (λ t x. (refl, sym (eqb-true root (goals - 1) t)))
      | false ↦ (λ t x.
          let ne : root ≡ goals - 1 → ⊥ = eqb-false root (goals - 1) t in
          let s : w ≡ root = cc in
          let lt : w < goals - 1 = omega arith in
          (lt-leb (goals - 1) w lt, refl))
    ] in
    q refl e

pub record Head (file : List ℕ) (goals root : ℕ) : Type 0 where
  pub some : 1 ≤ goals
  pub few : goals ≤ 4096
  pub root_within : root < goals
  pub short : length file ≤ 60000
  pub bytes_are : file ≡ header_bytes goals root ++ drop (header_end file) file

pub header_sound : (file : List ℕ) → AllByRecursion (λ b. b < 256) file → first (header_rules file) ≡ None → Head file (word_at file 1) (root_at file)
header_sound file all e =
    let h = first_all (header_rules file) e in
    let m = get_or file 0 0 in
    let goals = word_at file 1 in
    let root = root_at file in
    let b = bit_at m 2 in
    let fin : header_end file ≤ length file = ltb-false (length file) (header_end file) h.1.1.0 in
    let long : 0 < length file = omega arith in
    let hb = elim (and_cases (ltb 0 (length file)) (eqb (m % 2) 0 || ltb 3 m) h.1.0) as (λ _. (eqb (m % 2) 0 || ltb 3 m) ≡ false) [
      | inl z ↦ absurd (both_ways (ltb 0 (length file)) z (lt-ltb 0 (length file) long))
      | inr z ↦ z
    ] in
    let hp = or_parts (eqb (m % 2) 0) (ltb 3 m) hb in
    let odd : m % 2 ≡ 0 → ⊥ = eqb-false (m % 2) 0 hp.0 in
    let low : m ≤ 3 = ltb-false 3 m hp.1 in
    let gp = or_parts (eqb goals 0) (ltb 4096 goals) h.1.1.1.0 in
    let ne : goals ≡ 0 → ⊥ = eqb-false goals 0 gp.0 in
    let some : 1 ≤ goals = omega arith in
    let r = root_is b goals (word_at file 3) some h.1.1.1.1.0 in
    let d : digit (is_some (provided b (word_at file 3))) ≡ m / 2 % 2 = ap digit (some_provided b (word_at file 3)) ∙ digit_bit m 2 in
    let d' : digit (is_some (unless (goals - 1) root)) ≡ m / 2 % 2 = ap (λ o. digit (is_some o)) (sym r.0) ∙ d in
    let is : m ≡ 1 + 2 * digit (is_some (unless (goals - 1) root)) = omega arith in
    let e0 : file ≡ m ∷ drop 1 file = drop_more file 0 0 long in
    let e1 : drop 1 file ≡ word (Some goals) ++ drop 3 file = word_part file 1 (omega arith) all in
    let e2 : drop 3 file ≡ word (provided b (word_at file 3)) ++ drop (header_end file) file = word_field b (m / 2 % 2) file 3 (digit_bit m 2) fin all in
    let e3 : drop 3 file ≡ word (unless (goals - 1) root) ++ drop (header_end file) file = e2 ∙ ap (λ o. word o ++ drop (header_end file) file) r.0 in
    let e4 : m ∷ drop 1 file ≡ m ∷ (word (Some goals) ++ (word (unless (goals - 1) root) ++ drop (header_end file) file)) = ap (λ xs. m ∷ xs) (e1 ∙ ap (λ xs. word (Some goals) ++ xs) e3) in
    let e5 = ap (λ n. n ∷ (word (Some goals) ++ (word (unless (goals - 1) root) ++ drop (header_end file) file))) is in
    record {
      some = some;
      few = ltb-false 4096 goals gp.1;
      root_within = r.1;
      short = ltb-false 60000 (length file) h.0;
      bytes_are = e0 ∙ e4 ∙ e5;
    }

pub header_complete : (file : List ℕ) (goals root : ℕ) (rest : List ℕ) → 1 ≤ goals → goals ≤ 4096 → root < goals → length file ≤ 60000 → file ≡ header_bytes goals root ++ rest → (first (header_rules file) ≡ None) × (word_at file 1 ≡ goals) × (root_at file ≡ root) × (drop (header_end file) file ≡ rest)
header_complete file goals root rest h0 h1 h2 h3 e =
    let o = unless (goals - 1) root in
    let d = digit (is_some o) in
    let small : d ≤ 1 = digit_small (is_some o) in
    let m = 1 + 2 * d in
    let m' = get_or file 0 0 in
    let is : m' ≡ m = at_front file 0 m (word (Some goals) ++ (word o ++ rest)) e in
    let e1 : drop 1 file ≡ word (Some goals) ++ (word o ++ rest) = drop_front file 0 m (word (Some goals) ++ (word o ++ rest)) e in
    let p1 = word_back (Some goals) 1 file 1 (word o ++ rest) e1 refl in
    let gs : word_at file 1 ≡ goals = cc p1.0 in
    let bit : m' / 2 % 2 ≡ d = omega arith in
    let p2 = word_back o (m' / 2 % 2) file 3 rest p1.1 bit in
    let ba : bit_at m' 2 ≡ is_some o = bit_digit (is_some o) (m' / 2 % 2) bit in
    let rb = root_back goals root (word_at file 3) h2 p2.0 in
    let ri : root_at file ≡ root = ap (λ t. unwrap_or (provided t (word_at file 3)) (word_at file 1 - 1)) ba ∙ ap (λ x. unwrap_or x (word_at file 1 - 1)) p2.0 ∙ ap (λ g. unwrap_or o (g - 1)) gs ∙ rb.1 in
    let len : length file ≡ length (header_bytes goals root) + length rest = ap length e ∙ length-append (header_bytes goals root) rest in
    let lh : length (header_bytes goals root) ≡ 3 + 2 * d = ap (λ n. suc (suc (suc n))) (length_word o) ∙ omega arith in
    let t1 : (eqb (m' % 2) 0 || ltb 3 m') ≡ false = or_from _ _ (ne_eqb (m' % 2) 0 (λ z. omega arith)) (le-ltb 3 m' (omega arith)) in
    let t3 : (eqb (word_at file 1) 0 || ltb 4096 (word_at file 1)) ≡ false = or_from _ _ (ne_eqb (word_at file 1) 0 (λ z. omega arith)) (le-ltb 4096 (word_at file 1) (omega arith)) in
    let t4 : (bit_at m' 2 && leb (word_at file 1 - 1) (word_at file 3)) ≡ false = ap (λ t. t && leb (word_at file 1 - 1) (word_at file 3)) ba ∙ ap (λ g. is_some o && leb (g - 1) (word_at file 3)) gs ∙ rb.0 in
    (all_first (header_rules file) (le-ltb 60000 (length file) h3, (and_right (ltb 0 (length file)) _ t1, (le-ltb (length file) (header_end file) (omega arith), (t3, (t4, tt))))), gs, ri, p2.1)
