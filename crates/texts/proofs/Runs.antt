-- Numerals in a text: one without needless zeros that no digit follows is read in one way.
use Rattle.std.proofs.Common.{◌≡◌, ℕ, zero, suc, ◌+◌, ◌-◌, ◌*◌, ◌^◌, ◌<◌, ◌≤◌, Bool, true, false, cond, List, [], ◌∷◌, ◌++◌, length, get_or, take, drop, Some, None, Option, decimal, sym, refl, ap, ◌∙◌, subst, one-add, arith, length-drop, take-append-drop}
use Rattle.std.proofs.lemmas.Fmt.{decimal_digit, decimal_nonempty, decimal-digits_value, digits_decimal, first_decimal, decimal_injective, digits_value-decimal}
use Rattle.std.proofs.lemmas.List.{drop-drop}
use Rattle.std.proofs.lemmas.List.Sums.{prefix_len-le-length}
use Rattle.std.proofs.lemmas.Str.Parse.{IsNumeralModel, digit_at, numerals_by_value, tells_all_ascii_digits}
use Rattle.std.proofs.lemmas.Bool.{and_from, and_parts}
use Rattle.std.proofs.lemmas.Bool.Decides.{nat_tests}
use Rattle.std.proofs.lemmas.Int.Digits.{digits_value_more}
use Rattle.std.specs.List.{between, prefix_len}
use Rattle.std.specs.Option.{MatchOption, SomeIff}
use Rattle.std.specs.Str.{all_ascii_digits}
use Rattle.std.specs.Str.Parse.{digits_value}
use Rattle.std.specs.Char.{digit_value, is_ascii_digit}
use Rattle.std.specs.Int.{IsInRange}
use Rattle.texts.specs.Parts.{NoDigit, NumberAt, Run, Stands}

own : IsNumeralModel (λ ds. all_ascii_digits ds ≡ true) (digits_value 10)
own = numerals_by_value _ tells_all_ascii_digits

pub clash : {R : Type 0} (b : Bool) → b ≡ true → b ≡ false → R
clash b e f = let z : ◌≡◌ {A = ℕ} 1 0 = ap (λ x. cond x 1 0) (sym e ∙ f) in absurd (omega arith)

-- ---- what digits write

pub digit_in : (ds : List ℕ) (i : ℕ) → all_ascii_digits ds ≡ true → i < length ds → IsInRange 48 57 (get_or ds i 0)
digit_in ds i all h = digit_at ds i (own.to ds all) h

pub value_more : (ds : List ℕ) (i n : ℕ) → all_ascii_digits ds ≡ true → i < length ds → n ≡ digits_value 10 (take i ds) →
    n * 10 + (get_or ds i 0 - 48) ≡ digits_value 10 (take (i + 1) ds)
value_more ds i n all h is =
    let digit = digit_in ds i all h in
    let worth : digit_value (get_or ds i 0) ≡ get_or ds i 0 - 48 = grind (arith, nat_tests) in
    omega (arith, digits_value_more 10 ds i h)

-- ---- digits that no digit follows end in one place

pub record Split (xs ys u v : List ℕ) : Type 0 where
  pub front : xs ≡ ys
  pub back : u ≡ v

no_digit_cons : {R : Type 0} (u : List ℕ) (c : ℕ) (cs : List ℕ) → NoDigit u → is_ascii_digit c ≡ true → u ≡ c ∷ cs → R
no_digit_cons [] c cs n d e = let z : 0 ≡ suc (length cs) = ap length e in absurd (omega arith)
no_digit_cons (x ∷ u) c cs n d e =
    let h : x ≡ c = ap (λ l. get_or l 0 0) e in
    clash (is_ascii_digit c) d (sym (ap is_ascii_digit h) ∙ n)

one_split : (xs ys u v : List ℕ) → all_ascii_digits xs ≡ true → all_ascii_digits ys ≡ true → NoDigit u → NoDigit v → xs ++ u ≡ ys ++ v → Split xs ys u v
one_split [] [] u v p q nu nv e = record { front = refl; back = e }
one_split [] (y ∷ ys) u v p q nu nv e = no_digit_cons u y (ys ++ v) nu (and_parts (is_ascii_digit y) (all_ascii_digits ys) q).0 e
one_split (x ∷ xs) [] u v p q nu nv e = no_digit_cons v x (xs ++ u) nv (and_parts (is_ascii_digit x) (all_ascii_digits xs) p).0 (sym e)
one_split (x ∷ xs) (y ∷ ys) u v p q nu nv e =
    let h : x ≡ y = ap (λ l. get_or l 0 0) e in
    let s = one_split xs ys u v (and_parts (is_ascii_digit x) (all_ascii_digits xs) p).1 (and_parts (is_ascii_digit y) (all_ascii_digits ys) q).1 nu nv (ap (drop 1) e) in
    record { front = ap (λ c. c ∷ xs) h ∙ ap (λ l. y ∷ l) s.front; back = s.back }

-- the part between two indices, and what follows it
drop_between : (i e : ℕ) (bytes : List ℕ) → i ≤ e → drop i bytes ≡ between i e bytes ++ drop e bytes
drop_between i e bytes h =
    let f : i + (e - i) ≡ e = omega arith in
    sym (take-append-drop (e - i) (drop i bytes)) ∙ ap (λ x. between i e bytes ++ x) (drop-drop (e - i) i bytes ∙ ap (λ k. drop k bytes) f)

same_end : (e f : ℕ) (bytes : List ℕ) → e ≤ length bytes → f ≤ length bytes → drop e bytes ≡ drop f bytes → e ≡ f
same_end e f bytes h k s = omega (arith, ap length s, length-drop e bytes, length-drop f bytes)

-- ---- the run of digits at an index

digits_front : (xs : List ℕ) → all_ascii_digits (take (prefix_len is_ascii_digit xs) xs) ≡ true
digits_front [] = refl
digits_front (x ∷ xs) = pick (is_ascii_digit x) refl (digits_front xs)
  where
    pick : (b : Bool) → is_ascii_digit x ≡ b → all_ascii_digits (take (prefix_len is_ascii_digit xs) xs) ≡ true → all_ascii_digits (take (cond b (1 + prefix_len is_ascii_digit xs) 0) (x ∷ xs)) ≡ true
    pick true e more = rw one-add (and_from (is_ascii_digit x) (all_ascii_digits (take (prefix_len is_ascii_digit xs) xs)) e more)
    pick false e more = refl

no_digit_after : (xs : List ℕ) → NoDigit (drop (prefix_len is_ascii_digit xs) xs)
no_digit_after [] = tt
no_digit_after (x ∷ xs) = pick (is_ascii_digit x) refl (no_digit_after xs)
  where
    pick : (b : Bool) → is_ascii_digit x ≡ b → NoDigit (drop (prefix_len is_ascii_digit xs) xs) → NoDigit (drop (cond b (1 + prefix_len is_ascii_digit xs) 0) (x ∷ xs))
    pick true e more = rw one-add more
    pick false e more = e

pub run_at : (bytes : List ℕ) (i n : ℕ) → i ≤ length bytes → n ≡ prefix_len is_ascii_digit (drop i bytes) → Run bytes i (i + n)
run_at bytes i n h e =
    let size : i + n - i ≡ n = omega arith in
    record {
      from = omega arith;
      to = omega (arith, e, prefix_len-le-length is_ascii_digit (drop i bytes), length-drop i bytes);
      digits = ap (λ k. all_ascii_digits (take k (drop i bytes))) (size ∙ e) ∙ digits_front (drop i bytes);
      ends = subst NoDigit (drop-drop n i bytes) (subst (λ k. NoDigit (drop k (drop i bytes))) (sym e) (no_digit_after (drop i bytes)));
    }

-- ---- the number that stands at an index

decimal_digits : (n : ℕ) → n < 65536 → all_ascii_digits (decimal n) ≡ true
decimal_digits n h = digits_decimal own n (omega arith)

zero_first : (n : ℕ) → n < 65536 → get_or (decimal n) 0 0 ≡ 48 → length (decimal n) ≡ 1
zero_first zero h e = ap length (decimal_digit 0 (omega arith))
zero_first (suc n) h e = absurd (omega (arith, first_decimal (suc n) (omega arith) (omega arith), e))

module _ (bytes ds : List ℕ) (i e : ℕ) (r : Run bytes i e) (is : ds ≡ between i e bytes) where
  all_digits : all_ascii_digits ds ≡ true
  all_digits = ap all_ascii_digits is ∙ r.digits

  -- a numeral is all digits of its run
  run_is : (f n : ℕ) → n < 65536 → Stands (decimal n) bytes i f → (ds ≡ decimal n) × (e ≡ f)
  run_is f n h s =
      let both = one_split (between i e bytes) (decimal n) (drop e bytes) (drop f bytes) r.digits (decimal_digits n h) r.ends s.ends (sym (drop_between i e bytes r.from) ∙ s.is) in
      (is ∙ both.front, same_end e f bytes r.to s.to both.back)

  -- no number where there is no digit, or a needless zero
  pub number_empty : length ds ≡ 0 → NumberAt bytes i None
  number_empty none n f h s = omega (arith, decimal_nonempty n (omega arith), ap length (run_is f n h s).0)

  pub number_zero : get_or ds 0 0 ≡ 48 → 1 < length ds → NumberAt bytes i None
  number_zero first long n f h s =
      let all = (run_is f n h s).0 in
      omega (arith, zero_first n h (sym (ap (λ xs. get_or xs 0 0) all) ∙ first), ap length all)

  -- else the one that the digits write, if it fits
  pub number_fits : (v : Option ℕ) → 0 < length ds → (get_or ds 0 0 ≡ 48 → length ds ≤ 1) → SomeIff v (digits_value 10 ds < 2 ^ 16) (digits_value 10 ds) →
      MatchOption v (NumberAt bytes i None) (λ n. NumberAt bytes i (Some (n, e)))
  number_fits (Some n) some plain fits =
      let same : decimal n ≡ ds = ap decimal fits.1 ∙ decimal-digits_value own ds all_digits some (λ z. omega (arith, plain z, some)) (omega (arith, fits.0)) in (
        record { to = r.to; is = drop_between i e bytes r.from ∙ ap (λ x. x ++ drop e bytes) (sym (same ∙ is)); ends = r.ends },
        omega (arith, fits.0, fits.1),
      )
  number_fits None some plain large = λ n f h s.
      let value : digits_value 10 ds ≡ n = ap (digits_value 10) (run_is f n h s).0 ∙ digits_value-decimal own n (omega arith) in
      large (omega arith)

pub one_number : (bytes : List ℕ) (i e f a b : ℕ) → a < 65536 → b < 65536 → Stands (decimal a) bytes i e → Stands (decimal b) bytes i f → (a ≡ b) × (e ≡ f)
one_number bytes i e f a b ha hb s t =
    let both = one_split (decimal a) (decimal b) (drop e bytes) (drop f bytes) (decimal_digits a ha) (decimal_digits b hb) s.ends t.ends (sym s.is ∙ t.is) in
    (decimal_injective a b (omega arith) (omega arith) both.front, same_end e f bytes s.to t.to both.back)
