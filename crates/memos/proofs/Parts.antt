-- The bytes of a record's fields: what is read is what is written.
use Rattle.std.proofs.Common.{◌≡◌, ℕ, zero, suc, ◌+◌, ◌-◌, ◌*◌, ◌/◌, ◌%◌, ◌<◌, ◌≤◌, Bool, true, false, eqb, List, [], ◌∷◌, ◌++◌, length, get_or, drop, is_some, IfSome, MatchBool, option_map, Some, None, Option, sym, refl, ap, ◌∙◌, append_assoc, arith, lit<, lit≤, length-append, length-drop}
use Rattle.std.specs.List.{AllByRecursion}
use Rattle.std.proofs.lemmas.List.{drop_more, drop-drop, get_or-drop}
use Rattle.std.proofs.lemmas.Nat.{shr-shr}
use Rattle.memos.specs.declared.cursor.Cursor.{Cursor}
use Rattle.memos.specs.declared.fields.Fields.{Fields}
use Rattle.memos.specs.Memos.{digit, word, byte, provided, bit_map, field_bytes, record_bytes}
use Rattle.memos.specs.Rules.{word_at, bit_at, kind_from, tag_from, left_from, right_from, end_from, fields_at}

pub byte_at : (xs : List ℕ) (i : ℕ) → AllByRecursion (λ b. b < 256) xs → get_or xs i 0 < 256
byte_at [] i h = lit< tt
byte_at (x ∷ xs) zero h = h.0
byte_at (x ∷ xs) (suc i) h = byte_at xs i h.1

-- ---------- bits

two_ways : (y : ℕ) → y < 2 → digit (eqb y 1) ≡ y
two_ways zero h = refl
two_ways (suc zero) h = refl
two_ways (suc (suc n)) h = absurd (omega arith)

pub digit_bit : (map d : ℕ) → digit (bit_at map d) ≡ map / d % 2
digit_bit map d = two_ways (map / d % 2) (omega arith)

pub digit_small : (b : Bool) → digit b ≤ 1
digit_small true = lit≤ tt
digit_small false = lit≤ tt

pub bit_digit : (b : Bool) (n : ℕ) → n ≡ digit b → eqb n 1 ≡ b
bit_digit true n e = ap (λ k. eqb k 1) e
bit_digit false n e = ap (λ k. eqb k 1) e

pub some_provided : (b : Bool) (n : ℕ) → is_some (provided b n) ≡ b
some_provided true n = refl
some_provided false n = refl

-- ---------- from the file to the fields

pub word_part : (file : List ℕ) (i : ℕ) → i + 2 ≤ length file → AllByRecursion (λ b. b < 256) file → drop i file ≡ word (Some (word_at file i)) ++ drop (i + 2) file
word_part file i h all =
    let p : drop i file ≡ get_or file i 0 ∷ drop (i + 1) file = drop_more file i 0 (omega arith) in
    let q : drop (i + 1) file ≡ get_or file (i + 1) 0 ∷ drop (i + 1 + 1) file = drop_more file (i + 1) 0 (omega arith) in
    let r : drop (i + 1 + 1) file ≡ drop (i + 2) file = ap (λ n. drop n file) (omega arith) in
    let s : get_or file i 0 ≡ word_at file i % 256 = omega (arith, byte_at file i all, byte_at file (i + 1) all) in
    let t : get_or file (i + 1) 0 ≡ word_at file i / 256 = omega (arith, byte_at file i all, byte_at file (i + 1) all) in
    cc

pub word_field : (b : Bool) (n : ℕ) (file : List ℕ) (i : ℕ) → digit b ≡ n → i + 2 * n ≤ length file → AllByRecursion (λ b. b < 256) file → drop i file ≡ word (provided b (word_at file i)) ++ drop (i + 2 * n) file
word_field true n file i e h all =
    let k : i + 2 ≡ i + 2 * n = omega arith in
    word_part file i (omega arith) all ∙ ap (λ m. word (Some (word_at file i)) ++ drop m file) k
word_field false n file i e h all = ap (λ m. drop m file) (omega arith)

pub byte_field : (b : Bool) (n : ℕ) (file : List ℕ) (i : ℕ) → digit b ≡ n → i + n ≤ length file → drop i file ≡ byte (provided b (get_or file i 0)) ++ drop (i + n) file
byte_field true n file i e h =
    let k : i + 1 ≡ i + n = omega arith in
    drop_more file i 0 (omega arith) ∙ ap (λ m. get_or file i 0 ∷ drop m file) k
byte_field false n file i e h = ap (λ m. drop m file) (omega arith)

chained : (m m' : ℕ) (d0 d1 d2 d3 d4 d5 d6 g k t l r : List ℕ) → d0 ≡ m ∷ d1 → d1 ≡ g ++ d2 → d2 ≡ k ++ d3 → d3 ≡ t ++ d4 → d4 ≡ l ++ d5 → d5 ≡ r ++ d6 → m' ≡ m → d0 ≡ (m' ∷ (g ++ (k ++ (t ++ (l ++ r))))) ++ d6
chained m m' d0 d1 d2 d3 d4 d5 d6 g k t l r e0 e1 e2 e3 e4 e5 em =
    let s : (g ++ (k ++ (t ++ (l ++ r)))) ++ d6 ≡ g ++ (k ++ (t ++ (l ++ (r ++ d6)))) = simp append_assoc in
    cc

pub half : (n : ℕ) → n % 2 + 2 * (n / 2) ≡ n
half n = omega arith

pub map_read : (file : List ℕ) (map at : ℕ) → map < 32 → bit_map (fields_at file map at) ≡ map
map_read file map at h =
    let a0 = ap digit (some_provided (bit_at map 1) (word_at file (at + 1))) in
    let a1 = ap digit (some_provided (bit_at map 2) (get_or file (kind_from map at) 0)) in
    let a2 = ap digit (some_provided (bit_at map 4) (word_at file (tag_from map at))) in
    let a3 = ap digit (some_provided (bit_at map 8) (word_at file (left_from map at))) in
    let a4 = ap digit (some_provided (bit_at map 16) (word_at file (right_from map at))) in
    let h4 : map / 2 / 2 ≡ map / 4 = shr-shr map 1 1 in
    let h8 : map / 4 / 2 ≡ map / 8 = shr-shr map 2 1 in
    let h16 : map / 8 / 2 ≡ map / 16 = shr-shr map 3 1 in
    let t16 : map / 16 % 2 ≡ map / 16 = omega arith in
    let t8 : map / 8 % 2 + 2 * (map / 16 % 2) ≡ map / 8 = omega (arith, half (map / 8), h16, t16) in
    let t4 : map / 4 % 2 + 2 * (map / 8 % 2 + 2 * (map / 16 % 2)) ≡ map / 4 = omega (arith, half (map / 4), h8, t8) in
    let t2 : map / 2 % 2 + 2 * (map / 4 % 2 + 2 * (map / 8 % 2 + 2 * (map / 16 % 2))) ≡ map / 2 = omega (arith, half (map / 2), h4, t4) in
    let s : map % 2 + 2 * (map / 2 % 2 + 2 * (map / 4 % 2 + 2 * (map / 8 % 2 + 2 * (map / 16 % 2)))) ≡ map = omega (arith, half map, t2) in
    let one : map / 1 % 2 ≡ map % 2 = omega arith in
    omega (arith, s, a0, a1, a2, a3, a4, digit_bit map 1, digit_bit map 2, digit_bit map 4, digit_bit map 8, digit_bit map 16)

pub fields_read : (file : List ℕ) (at : ℕ) → at < length file → get_or file at 0 < 32 → end_from (get_or file at 0) at ≤ length file → AllByRecursion (λ b. b < 256) file → drop at file ≡ record_bytes (fields_at file (get_or file at 0) at) ++ drop (end_from (get_or file at 0) at) file
fields_read file at h m e all =
    let map = get_or file at 0 in
    chained map _ (drop at file) (drop (at + 1) file) (drop (kind_from map at) file) (drop (tag_from map at) file) (drop (left_from map at) file) (drop (right_from map at) file) (drop (end_from map at) file) _ _ _ _ _
    (drop_more file at 0 h)
    (word_field (bit_at map 1) (map % 2) file (at + 1) (omega (arith, digit_bit map 1)) (omega arith) all)
    (byte_field (bit_at map 2) (map / 2 % 2) file (kind_from map at) (digit_bit map 2) (omega arith))
    (word_field (bit_at map 4) (map / 4 % 2) file (tag_from map at) (digit_bit map 4) (omega arith) all)
    (word_field (bit_at map 8) (map / 8 % 2) file (left_from map at) (digit_bit map 8) (omega arith) all)
    (word_field (bit_at map 16) (map / 16 % 2) file (right_from map at) (digit_bit map 16) (omega arith) all)
    (map_read file map at m)

-- a field was passed in a file, and the next place is q
abbrev pub Field : ℕ → Bool → ℕ → ℕ → Option ℕ → ℕ → Type 0
Field size b value p o q = (o ≡ provided b value) × (q ≡ p + size * digit b)

-- what a field is where its bit stands, by what its own reading answers (A), and where it does not
pub field_is : (size : ℕ) (b : Bool) (value : ℕ) (old new : Cursor) (r : Option ℕ) (A : Option ℕ → Type 0) → ((o : Option ℕ) → A o → (new.file.now ≡ old.file.now) × IfSome o (λ w. (w ≡ value) × (new.at ≡ old.at + size))) → MatchBool b ((o : Option ℕ) × A o × (◌≡◌ {A = Option (Option ℕ)} (Some r) (option_map (λ x. Some x) o))) ((◌≡◌ {A = Option (Option ℕ)} (Some r) (Some None)) × (new ≡ old)) → (new.file.now ≡ old.file.now) × Field size b value old.at r new.at
field_is size true value old new r A each (None, a, e) = cc
field_is size true value old new r A each (Some w, a, e) =
    let h = each (Some w) a in
    let is : r ≡ Some w = cc in
    (h.0, (is ∙ ap (λ v. Some v) h.1.0, omega (arith, h.1.1)))
field_is size false value old new r A each (e, same) =
    let none : r ≡ None = cc in
    (ap (λ (x : Cursor). x.file.now) same, (none, omega (arith, ap (λ (x : Cursor). x.at) same)))

-- all fields were passed, one after the other
module _ (file f1 f2 f3 f4 : List ℕ) (map at p0 p1 p2 p3 p4 p5 : ℕ) (goal kind tag left right : Option ℕ) (behind : p0 ≡ at + 1) where
  pub fields_passed : (f1 ≡ file) × Field 2 (eqb (map % 2) 1) (word_at file p0) p0 goal p1 → (f2 ≡ f1) × Field 1 (bit_at map 2) (get_or f1 p1 0) p1 kind p2 → (f3 ≡ f2) × Field 2 (bit_at map 4) (word_at f2 p2) p2 tag p3 → (f4 ≡ f3) × Field 2 (bit_at map 8) (word_at f3 p3) p3 left p4 → Field 2 (bit_at map 16) (word_at f4 p4) p4 right p5 → ◌≡◌ {A = Fields} (record { goal = goal; kind = kind; tag = tag; left = left; right = right }) (fields_at file map at) × (p5 ≡ end_from map at)
  fields_passed (e1, g) (e2, k) (e3, t) (e4, l) r =
      let one : map ≡ map / 1 = omega arith in
      let s1 : p1 ≡ kind_from map at = omega (arith, two_ways (map % 2) (omega arith), g.1) in
      let s2 : p2 ≡ tag_from map at = omega (arith, digit_bit map 2, k.1) in
      let s3 : p3 ≡ left_from map at = omega (arith, digit_bit map 4, t.1) in
      let s4 : p4 ≡ right_from map at = omega (arith, digit_bit map 8, l.1) in
      let w1 = g.0 ∙ (λ i. provided (eqb (one i % 2) 1) (word_at file (behind i))) in
      let w2 = k.0 ∙ (λ i. provided (bit_at map 2) (get_or (e1 i) (s1 i) 0)) in
      let w3 = t.0 ∙ (λ i. provided (bit_at map 4) (word_at ((e2 ∙ e1) i) (s2 i))) in
      let w4 = l.0 ∙ (λ i. provided (bit_at map 8) (word_at ((e3 ∙ e2 ∙ e1) i) (s3 i))) in
      let w5 = r.0 ∙ (λ i. provided (bit_at map 16) (word_at ((e4 ∙ e3 ∙ e2 ∙ e1) i) (s4 i))) in
      ((λ i. record { goal = w1 i; kind = w2 i; tag = w3 i; left = w4 i; right = w5 i }), omega (arith, digit_bit map 16, r.1))

-- ---------- from the fields to the file

pub at_front : (file : List ℕ) (i x : ℕ) (ys : List ℕ) → drop i file ≡ x ∷ ys → get_or file i 0 ≡ x
at_front file i x ys e =
    let p : get_or (drop i file) 0 0 ≡ get_or file (i + 0) 0 = get_or-drop i file 0 0 in
    let q : i + 0 ≡ i = omega arith in
    ap (λ n. get_or file n 0) (sym q) ∙ sym p ∙ ap (λ zs. get_or zs 0 0) e

pub drop_front : (file : List ℕ) (i x : ℕ) (ys : List ℕ) → drop i file ≡ x ∷ ys → drop (i + 1) file ≡ ys
drop_front file i x ys e = sym (drop-drop 1 i file) ∙ ap (drop 1) e

pub word_back : (o : Option ℕ) (n : ℕ) (file : List ℕ) (i : ℕ) (ys : List ℕ) → drop i file ≡ word o ++ ys → n ≡ digit (is_some o) → (provided (is_some o) (word_at file i) ≡ o) × (drop (i + 2 * n) file ≡ ys)
word_back None n file i ys e z = (refl, ap (λ m. drop m file) (omega arith) ∙ e)
word_back (Some v) n file i ys e z =
    let p : get_or file i 0 ≡ v % 256 = at_front file i (v % 256) (v / 256 ∷ ys) e in
    let d : drop (i + 1) file ≡ v / 256 ∷ ys = drop_front file i (v % 256) (v / 256 ∷ ys) e in
    let q : get_or file (i + 1) 0 ≡ v / 256 = at_front file (i + 1) (v / 256) ys d in
    let s : drop (i + 1 + 1) file ≡ ys = drop_front file (i + 1) (v / 256) ys d in
    let k : i + 2 * n ≡ i + 1 + 1 = omega arith in
    let w : word_at file i ≡ v = omega arith in
    (ap Some w, ap (λ m. drop m file) k ∙ s)

pub byte_back : (o : Option ℕ) (n : ℕ) (file : List ℕ) (i : ℕ) (ys : List ℕ) → drop i file ≡ byte o ++ ys → n ≡ digit (is_some o) → (provided (is_some o) (get_or file i 0) ≡ o) × (drop (i + n) file ≡ ys)
byte_back None n file i ys e z = (refl, ap (λ m. drop m file) (omega arith) ∙ e)
byte_back (Some v) n file i ys e z =
    let k : i + n ≡ i + 1 = omega arith in
    (ap Some (at_front file i v ys e), ap (λ m. drop m file) k ∙ drop_front file i v ys e)

bits_back : (d0 d1 d2 d3 d4 : ℕ) → d0 ≤ 1 → d1 ≤ 1 → d2 ≤ 1 → d3 ≤ 1 → d4 ≤ 1 → (m : ℕ) → m ≡ d0 + 2 * (d1 + 2 * (d2 + 2 * (d3 + 2 * d4))) → (m / 1 % 2 ≡ d0) × (m / 2 % 2 ≡ d1) × (m / 4 % 2 ≡ d2) × (m / 8 % 2 ≡ d3) × (m / 16 % 2 ≡ d4)
bits_back d0 d1 d2 d3 d4 h0 h1 h2 h3 h4 m e =
    (omega arith, omega arith, omega arith, omega arith, omega arith)

pub length_word : (o : Option ℕ) → length (word o) ≡ 2 * digit (is_some o)
length_word None = refl
length_word (Some v) = refl

pub length_byte : (o : Option ℕ) → length (byte o) ≡ digit (is_some o)
length_byte None = refl
length_byte (Some v) = refl

pub record Back (file : List ℕ) (f : Fields) (at : ℕ) (rest : List ℕ) : Type 0 where
  pub map_is : get_or file at 0 ≡ bit_map f
  pub small : bit_map f < 32
  pub fields_are : fields_at file (bit_map f) at ≡ f
  pub ends : end_from (bit_map f) at ≤ length file
  pub rest_is : drop (end_from (bit_map f) at) file ≡ rest

pub fields_back : (file : List ℕ) (f : Fields) (at : ℕ) (rest : List ℕ) → drop at file ≡ record_bytes f ++ rest → Back file f at rest
fields_back file f at rest e =
    let m = bit_map f in
    let d0 = digit (is_some f.goal) in
    let d1 = digit (is_some f.kind) in
    let d2 = digit (is_some f.tag) in
    let d3 = digit (is_some f.left) in
    let d4 = digit (is_some f.right) in
    let s0 : d0 ≤ 1 = digit_small (is_some f.goal) in
    let s1 : d1 ≤ 1 = digit_small (is_some f.kind) in
    let s2 : d2 ≤ 1 = digit_small (is_some f.tag) in
    let s3 : d3 ≤ 1 = digit_small (is_some f.left) in
    let s4 : d4 ≤ 1 = digit_small (is_some f.right) in
    let b = bits_back d0 d1 d2 d3 d4 s0 s1 s2 s3 s4 m refl in
    let g5 = word f.right ++ rest in
    let g4 = word f.left ++ g5 in
    let g3 = word f.tag ++ g4 in
    let g2 = byte f.kind ++ g3 in
    let g1 = word f.goal ++ g2 in
    let flat : field_bytes f ++ rest ≡ g1 = simp append_assoc in
    let e0 : drop at file ≡ m ∷ g1 = e ∙ ap (λ xs. m ∷ xs) flat in
    let p0 = word_back f.goal (m % 2) file (at + 1) g2 (drop_front file at m g1 e0) (omega (arith, b.0)) in
    let p1 = byte_back f.kind (m / 2 % 2) file (kind_from m at) g3 p0.1 b.1 in
    let p2 = word_back f.tag (m / 4 % 2) file (tag_from m at) g4 p1.1 b.2 in
    let p3 = word_back f.left (m / 8 % 2) file (left_from m at) g5 p2.1 b.3 in
    let p4 = word_back f.right (m / 16 % 2) file (right_from m at) rest p3.1 b.4 in
    let q0 : provided (bit_at m 1) (word_at file (at + 1)) ≡ f.goal = ap (λ t. provided t (word_at file (at + 1))) (bit_digit (is_some f.goal) (m / 1 % 2) b.0) ∙ p0.0 in
    let q1 : provided (bit_at m 2) (get_or file (kind_from m at) 0) ≡ f.kind = ap (λ t. provided t (get_or file (kind_from m at) 0)) (bit_digit (is_some f.kind) (m / 2 % 2) b.1) ∙ p1.0 in
    let q2 : provided (bit_at m 4) (word_at file (tag_from m at)) ≡ f.tag = ap (λ t. provided t (word_at file (tag_from m at))) (bit_digit (is_some f.tag) (m / 4 % 2) b.2) ∙ p2.0 in
    let q3 : provided (bit_at m 8) (word_at file (left_from m at)) ≡ f.left = ap (λ t. provided t (word_at file (left_from m at))) (bit_digit (is_some f.left) (m / 8 % 2) b.3) ∙ p3.0 in
    let q4 : provided (bit_at m 16) (word_at file (right_from m at)) ≡ f.right = ap (λ t. provided t (word_at file (right_from m at))) (bit_digit (is_some f.right) (m / 16 % 2) b.4) ∙ p4.0 in
    let long : length file - at ≡ 1 + (length (field_bytes f) + length rest) = sym (length-drop at file) ∙ ap length e ∙ ap suc (length-append (field_bytes f) rest) ∙ omega arith in
    let parts : length (field_bytes f) ≡ 2 * d0 + (d1 + (2 * d2 + (2 * d3 + 2 * d4))) =
    simp (length-append, length_word, length_byte) in
    record {
      map_is = at_front file at m g1 e0;
      small = omega arith;
      fields_are = λ i. record { goal = q0 i; kind = q1 i; tag = q2 i; left = q3 i; right = q4 i };
      ends = omega (arith, b.0, b.1, b.2, b.3, b.4);
      rest_is = p4.1;
    }
