-- A node's own part in a text is read in one way.
use Rattle.std.proofs.Common.{◌≡◌, ℕ, ◌+◌, ◌<◌, ◌≤◌, Bool, true, false, cond, eqb, ltb, List, ◌∷◌, ◌++◌, length, get_or, drop, Some, None, decimal, Option, sym, refl, ap, ◌∙◌, subst, ⊎_elim, append_assoc, arith, length-drop}
use Rattle.std.proofs.lemmas.List.{drop_at, drop-drop, drop_more}
use Rattle.std.proofs.lemmas.Bool.{and_cases, and_parts, eqb-false, eqb-true, ltb-false, ltb-true}
use Rattle.spaces.specs.Places.{none_some, some_inj}
use Rattle.spaces.specs.Kinds.{letter, lettered}
use Rattle.spaces.specs.declared.kind.Kind.{Kind}
use Rattle.spaces.specs.declared.kind.Kind.TheVariants.{Filter, HashJoin, IndexScan, MergeJoin, NestedLoops, Scan, Sort}
use Rattle.texts.specs.Parts.{LabelAt, Labelled, NoDigit, NumberAt, Stands, bare, byte_at}
use Rattle.texts.specs.Texts.{label}
use Rattle.texts.proofs.Runs.{one_number}

-- the same text and place
pub number_moved : (b c : List ℕ) (i j : ℕ) (o : Option (ℕ × ℕ)) → b ≡ c → i ≡ j → NumberAt b i o → NumberAt c j o
number_moved b c i j o e f h = subst (λ k. NumberAt c k o) f (subst (λ x. NumberAt x i o) e h)

-- ---- one byte

pub byte_here : (bytes : List ℕ) (i b : ℕ) → byte_at bytes i b ≡ true → (i < length bytes) × (drop i bytes ≡ b ∷ drop (i + 1) bytes)
byte_here bytes i b h =
    let p = and_parts (ltb i (length bytes)) (eqb (get_or bytes i 0) b) h in
    let l : i < length bytes = ltb-true i (length bytes) p.0 in
    (l, drop_more bytes i 0 l ∙ ap (λ c. c ∷ drop (i + 1) bytes) (eqb-true (get_or bytes i 0) b p.1))

-- what a text goes on with
pub inside : (bytes : List ℕ) (i b : ℕ) (x : List ℕ) → drop i bytes ≡ b ∷ x → i < length bytes
inside bytes i b x e = omega (arith, ap length e, length-drop i bytes)

pub head_is : (bytes : List ℕ) (i b : ℕ) (x : List ℕ) → drop i bytes ≡ b ∷ x → get_or bytes i 0 ≡ b
head_is bytes i b x e = ap (λ l. get_or l 0 0) (sym (drop_more bytes i 0 (inside bytes i b x e)) ∙ e)

pub tail_is : (bytes : List ℕ) (i b : ℕ) (x : List ℕ) → drop i bytes ≡ b ∷ x → drop (i + 1) bytes ≡ x
tail_is bytes i b x e = sym (drop-drop 1 i bytes) ∙ ap (drop 1) e

pub byte_missing : (bytes : List ℕ) (i b : ℕ) → byte_at bytes i b ≡ false → (x : List ℕ) → drop i bytes ≡ b ∷ x → ⊥
byte_missing bytes i b h x e =
    ⊎_elim
    (λ (f : ltb i (length bytes) ≡ false). omega (arith, ltb-false i (length bytes) f, inside bytes i b x e))
    (λ (f : eqb (get_or bytes i 0) b ≡ false). eqb-false (get_or bytes i 0) b f (head_is bytes i b x e))
    (and_cases (ltb i (length bytes)) (eqb (get_or bytes i 0) b) h)

pub after_part : (bytes : List ℕ) (i : ℕ) (xs ys : List ℕ) → drop i bytes ≡ xs ++ ys → drop (i + length xs) bytes ≡ ys
after_part bytes i xs ys e = sym (drop-drop (length xs) i bytes) ∙ ap (drop (length xs)) e ∙ drop_at xs ys (length xs) refl

-- ---- letters

pub letter_kind : (k : Kind) → lettered (letter k) ≡ Some k
letter_kind Scan = refl
letter_kind IndexScan = refl
letter_kind HashJoin = refl
letter_kind MergeJoin = refl
letter_kind NestedLoops = refl
letter_kind Filter = refl
letter_kind Sort = refl

pub kind_letter : (n : ℕ) (k : Kind) → lettered n ≡ Some k → letter k ≡ n
kind_letter n k e =
    go Scan _ (go IndexScan _ (go HashJoin _ (go MergeJoin _ (go NestedLoops _ (go Filter _ (go Sort _ (λ f. none_some f))))))) e
  where
    pick : (b : Bool) (c : Kind) (rest : Option Kind) → (b ≡ true → letter c ≡ n) → (rest ≡ Some k → letter k ≡ n) → cond b (Some c) rest ≡ Some k → letter k ≡ n
    pick true c rest h next f = ap letter (sym (some_inj f)) ∙ h refl
    pick false c rest h next f = next f

    go : (c : Kind) (rest : Option Kind) → (rest ≡ Some k → letter k ≡ n) → cond (eqb n (letter c)) (Some c) rest ≡ Some k → letter k ≡ n
    go c rest next f = pick (eqb n (letter c)) c rest (λ h. sym (eqb-true n (letter c) h)) next f

-- ---- the parts of a node's own part

pub record Parts (bytes : List ℕ) (i : ℕ) (k : Kind) (t g s e : ℕ) : Type 0 where
  pub first : drop i bytes ≡ letter k ∷ drop (i + 1) bytes
  pub tag : Stands (decimal t) bytes (i + 1) s
  pub sign : drop s bytes ≡ 64 ∷ drop (s + 1) bytes
  pub goal : Stands (decimal g) bytes (s + 1) e

pub parts_label : (bytes : List ℕ) (i : ℕ) (k : Kind) (t g s e : ℕ) → Parts bytes i k t g s e → Stands (label (bare k t g)) bytes i e
parts_label bytes i k t g s e p =
    record {
      to = p.goal.to;
      is = p.first
          ∙ ap (λ x. letter k ∷ x)
          (p.tag.is ∙ ap (λ x. decimal t ++ x) (p.sign ∙ ap (λ x. 64 ∷ x) p.goal.is) ∙ sym (append_assoc (decimal t) (64 ∷ decimal g) (drop e bytes)));
      ends = p.goal.ends;
    }

pub label_parts : (bytes : List ℕ) (i : ℕ) (k : Kind) (t g e : ℕ) → Stands (label (bare k t g)) bytes i e → Parts bytes i k t g (i + 1 + length (decimal t)) e
label_parts bytes i k t g e h =
    let s : ℕ = i + 1 + length (decimal t) in
    let last : List ℕ = decimal g ++ drop e bytes in
    let all : drop i bytes ≡ letter k ∷ (decimal t ++ (64 ∷ last)) = h.is ∙ ap (λ x. letter k ∷ x) (append_assoc (decimal t) (64 ∷ decimal g) (drop e bytes)) in
    let one : drop (i + 1) bytes ≡ decimal t ++ (64 ∷ last) = tail_is bytes i (letter k) (decimal t ++ (64 ∷ last)) all in
    let two : drop s bytes ≡ 64 ∷ last = after_part bytes (i + 1) (decimal t) (64 ∷ last) one in
    let three : drop (s + 1) bytes ≡ last = tail_is bytes s 64 last two in
    let low : s < length bytes = inside bytes s 64 last two in
    record {
      first = all ∙ ap (λ x. letter k ∷ x) (sym one);
      tag = record { to = omega arith; is = one ∙ ap (λ x. decimal t ++ x) (sym two); ends = subst NoDigit (sym two) refl };
      sign = two ∙ ap (λ x. 64 ∷ x) (sym three);
      goal = record { to = h.to; is = three; ends = h.ends };
    }

-- ---- where there is none

pub no_label_end : (bytes : List ℕ) (i : ℕ) → length bytes ≤ i → LabelAt bytes i None
no_label_end bytes i l k t g e ht hg h =
    let p = label_parts bytes i k t g e h in
    omega (arith, inside bytes i (letter k) (drop (i + 1) bytes) p.first)

pub no_label_letter : (bytes : List ℕ) (i j b : ℕ) → drop i bytes ≡ b ∷ drop j bytes → lettered b ≡ None → LabelAt bytes i None
no_label_letter bytes i j b here none k t g e ht hg h =
    let p = label_parts bytes i k t g e h in
    let same : b ≡ letter k = ap (λ l. get_or l 0 0) (sym here ∙ p.first) in
    none_some (sym none ∙ ap lettered same ∙ letter_kind k)

pub no_label_tag : (bytes : List ℕ) (i : ℕ) → NumberAt bytes (i + 1) None → LabelAt bytes i None
no_label_tag bytes i none k t g e ht hg h =
    let p = label_parts bytes i k t g e h in
    none t (i + 1 + length (decimal t)) ht p.tag

module _ (bytes : List ℕ) (i tag s : ℕ) (here : NumberAt bytes (i + 1) (Some (tag, s))) where
  same_sign : (k : Kind) (t g e : ℕ) → t < 65536 → Stands (label (bare k t g)) bytes i e → (tag ≡ t) × Parts bytes i k t g s e
  same_sign k t g e ht h =
      let p = label_parts bytes i k t g e h in
      let both = one_number bytes (i + 1) s (i + 1 + length (decimal t)) tag t here.1 ht here.0 p.tag in
      (both.0, subst (λ j. Parts bytes i k t g j e) (sym both.1) p)

  pub no_label_sign : byte_at bytes s 64 ≡ false → LabelAt bytes i None
  no_label_sign none k t g e ht hg h = byte_missing bytes s 64 none (drop (s + 1) bytes) (same_sign k t g e ht h).1.sign

  pub no_label_goal : NumberAt bytes (s + 1) None → LabelAt bytes i None
  no_label_goal none k t g e ht hg h = none g e hg (same_sign k t g e ht h).1.goal

pub label_here : (bytes : List ℕ) (i b : ℕ) (k : Kind) (t s g e : ℕ) → drop i bytes ≡ b ∷ drop (i + 1) bytes → lettered b ≡ Some k → NumberAt bytes (i + 1) (Some (t, s)) → byte_at bytes s 64 ≡ true →
    NumberAt bytes (s + 1) (Some (g, e)) → Labelled bytes i (bare k t g) e
label_here bytes i b k t s g e first letters tag sign goal =
    let p : Parts bytes i k t g s e = record {
      first = first ∙ ap (λ c. c ∷ drop (i + 1) bytes) (sym (kind_letter b k letters));
      tag = tag.0;
      sign = (byte_here bytes s 64 sign).1;
      goal = goal.0;
    } in
    record { stands = parts_label bytes i k t g s e p; plain = refl; tag = tag.1; goal = goal.1 }

-- ---- and where there is one it is the only one

pub one_label : (bytes : List ℕ) (i : ℕ) (k j : Kind) (t g e u h f : ℕ) → t < 65536 → g < 65536 → u < 65536 → h < 65536 → Stands (label (bare k t g)) bytes i e → Stands (label (bare j u h)) bytes i f →
    (bare k t g ≡ bare j u h) × (e ≡ f)
one_label bytes i k j t g e u h f ht hg hu hh a b =
    let p = label_parts bytes i k t g e a in
    let q = label_parts bytes i j u h f b in
    let kinds : k ≡ j =
    some_inj (sym (letter_kind k) ∙ ap lettered (sym (head_is bytes i (letter k) (drop (i + 1) bytes) p.first) ∙ head_is bytes i (letter j) (drop (i + 1) bytes) q.first) ∙ letter_kind j) in
    let tags = one_number bytes (i + 1) (i + 1 + length (decimal t)) (i + 1 + length (decimal u)) t u ht hu p.tag q.tag in
    let goals = one_number bytes (i + 1 + length (decimal t) + 1) e f g h hg hh p.goal (subst (λ n. Stands (decimal h) bytes (n + 1) f) (sym tags.1) q.goal) in
    (ap (λ x. bare x t g) kinds ∙ ap (λ x. bare j x g) tags.0 ∙ ap (bare j u) goals.0, goals.1)
