-- The marks between the nodes of a text.
use Rattle.std.proofs.Common.{◌≡◌, ℕ, zero, suc, ◌+◌, ◌≤◌, Bool, true, false, cond, eqb, List, [], ◌∷◌, ◌++◌, length, drop, sym, refl, ap, ◌∙◌, subst, append_assoc, append-nil, arith}
use Rattle.std.proofs.lemmas.List.{drop_at, nil_from_length, reverse-append}
use Rattle.std.proofs.lemmas.Bool.{ne_eqb}
use Rattle.texts.specs.Layout.{ahead, closing, opening}
use Rattle.texts.specs.Listed.{headed}
use Rattle.texts.specs.Parts.{byte_at}
use Rattle.texts.specs.Passing.{Missed, Passed, due_then, from_top, goes_on, has_comma, passed}
use Rattle.texts.proofs.Forests.{ahead_leaf, ahead_one, ahead_two}
use Rattle.texts.proofs.Labels.{byte_here, byte_missing}

pub cancel : (xs ys zs : List ℕ) → xs ++ ys ≡ xs ++ zs → ys ≡ zs
cancel xs ys zs e = sym (drop_at xs ys (length xs) refl) ∙ ap (drop (length xs)) e ∙ drop_at xs zs (length xs) refl

pub top_push : (v : List ℕ) (m : ℕ) → from_top (v ++ (m ∷ [])) ≡ m ∷ from_top v
top_push v m = reverse-append v (m ∷ [])

-- the law: the own part of a node, the marks that are passed then, and what is ahead
pub ahead_headed : (k : ℕ) (lab s : List ℕ) (ts : List (List ℕ)) → ahead s (headed k lab ts) ≡ lab ++ (passed k s ++ ahead (due_then k s) ts)
ahead_headed zero lab s ts = ahead_leaf lab s ts
ahead_headed (suc zero) lab s ts = ahead_one lab s ts
ahead_headed (suc (suc k)) lab s ts = ahead_two lab s ts

-- ---- after a leaf

-- of the marks s0 that were due at i, those gone stand before n, and s are left
pub record Closing (s0 s bytes : List ℕ) (i n : ℕ) : Type 0 where
  pub gone : List ℕ
  pub to : n ≤ length bytes
  pub all : closing s0 ≡ gone ++ closing s
  pub is : drop i bytes ≡ gone ++ drop n bytes
  pub opens : opening s0 ≡ opening s
  pub comma : has_comma s0 ≡ has_comma s

pub closing_start : (s bytes : List ℕ) (i : ℕ) → i ≤ length bytes → Closing s s bytes i i
closing_start s bytes i h = record { gone = []; to = h; all = refl; is = refl; opens = refl; comma = refl }

module _ (s0 s bytes : List ℕ) (i n m : ℕ) (before : Closing s0 (m ∷ s) bytes i n) where
  one_more : byte_at bytes n m ≡ true → drop i bytes ≡ (before.gone ++ (m ∷ [])) ++ drop (n + 1) bytes
  one_more here = before.is ∙ ap (λ y. before.gone ++ y) (byte_here bytes n m here).1 ∙ sym (append_assoc before.gone (m ∷ []) (drop (n + 1) bytes))

  pub closing_more : byte_at bytes n m ≡ true → (m ≡ 44 → ⊥) → Closing s0 s bytes i (n + 1)
  closing_more here other =
      let ne : eqb m 44 ≡ false = ne_eqb m 44 other in
      record {
        gone = before.gone ++ (m ∷ []);
        to = omega (arith, (byte_here bytes n m here).0);
        all = before.all ∙ ap (λ b. before.gone ++ (m ∷ cond b [] (closing s))) ne ∙ sym (append_assoc before.gone (m ∷ []) (closing s));
        is = one_more here;
        opens = before.opens ∙ ap (λ b. cond b s (opening s)) ne;
        comma = before.comma ∙ ap (λ b. cond b true (has_comma s)) ne;
      }

  pub closing_comma : byte_at bytes n m ≡ true → m ≡ 44 → Passed 0 s0 s bytes i (n + 1) true
  closing_comma here is =
      let all : closing s0 ≡ before.gone ++ (m ∷ []) = before.all ∙ ap (λ c. before.gone ++ (m ∷ cond (eqb c 44) [] (closing s))) is in
      record {
        to = omega (arith, (byte_here bytes n m here).0);
        is = one_more here ∙ ap (λ y. y ++ drop (n + 1) bytes) (sym all);
        due = sym (before.opens ∙ ap (λ c. cond (eqb c 44) s (opening s)) is);
        more = sym (before.comma ∙ ap (λ c. cond (eqb c 44) true (has_comma s)) is);
      }

  pub closing_missing : byte_at bytes n m ≡ false → Missed 0 s0 bytes i n
  closing_missing none =
      record { gone = before.gone; mark = m; rest = cond (eqb m 44) [] (closing s); all = before.all; to = before.to; is = before.is; other = none }

pub closing_end : (s0 bytes : List ℕ) (i n : ℕ) → Closing s0 [] bytes i n → Passed 0 s0 [] bytes i n false
closing_end s0 bytes i n before =
    record {
      to = before.to;
      is = before.is ∙ ap (λ y. y ++ drop n bytes) (sym (before.all ∙ append-nil before.gone));
      due = sym before.opens;
      more = sym before.comma;
    }

-- the stacks are kept with their tops last: the mark m is taken off v, and u is left
pub closing_pop : (s0 bytes v u : List ℕ) (i n m : ℕ) → v ≡ u ++ (m ∷ []) → Closing s0 (from_top v) bytes i n → Closing s0 (m ∷ from_top u) bytes i n
closing_pop s0 bytes v u i n m e before = subst (λ s. Closing s0 s bytes i n) (ap from_top e ∙ top_push u m) before

pub closing_empty : (s0 bytes v u : List ℕ) (i n : ℕ) → length v ≡ 0 → length u ≡ 0 → Closing s0 (from_top v) bytes i n → Passed 0 s0 (from_top u) bytes i n false
closing_empty s0 bytes v u i n e f before =
    subst (λ t. Passed 0 s0 t bytes i n false) (sym (ap from_top (nil_from_length u f)))
    (closing_end s0 bytes i n (subst (λ s. Closing s0 s bytes i n) (ap from_top (nil_from_length v e)) before))

-- ---- after a node with children

pub one_due : (k : ℕ) (v u : List ℕ) → k ≡ 1 → u ≡ v ++ (41 ∷ []) → from_top u ≡ due_then k (from_top v)
one_due k v u e is = ap from_top is ∙ top_push v 41 ∙ sym (ap (λ j. due_then j (from_top v)) e)

pub two_due : (k : ℕ) (v u w : List ℕ) → k ≡ 2 → u ≡ v ++ (41 ∷ []) → w ≡ u ++ (44 ∷ []) → from_top w ≡ due_then k (from_top v)
two_due k v u w e is then = ap from_top then ∙ top_push u 44 ∙ ap (λ s. 44 ∷ s) (ap from_top is ∙ top_push v 41) ∙ sym (ap (λ j. due_then j (from_top v)) e)

pub opened : (k : ℕ) (s t bytes : List ℕ) (i : ℕ) → 1 ≤ k → byte_at bytes i 40 ≡ true → t ≡ due_then k s → Passed k s t bytes i (i + 1) true
opened zero s t bytes i h here due = absurd (omega arith)
opened (suc k) s t bytes i h here due =
    let at = byte_here bytes i 40 here in
    record { to = omega (arith, at.0); is = at.1; due = due; more = refl }

pub unopened : (k : ℕ) (s bytes : List ℕ) (i : ℕ) → 1 ≤ k → i ≤ length bytes → byte_at bytes i 40 ≡ false → Missed k s bytes i i
unopened zero s bytes i h l none = absurd (omega arith)
unopened (suc k) s bytes i h l none = record { gone = []; mark = 40; rest = []; all = refl; to = l; is = refl; other = none }

-- where a mark is missing, no marks are passed
pub missed : (k : ℕ) (s bytes : List ℕ) (i p : ℕ) → Missed k s bytes i p → (x : List ℕ) → drop i bytes ≡ passed k s ++ x → ⊥
missed k s bytes i p miss x e =
    let whole : drop i bytes ≡ miss.gone ++ (miss.mark ∷ (miss.rest ++ x)) = e ∙ ap (λ y. y ++ x) miss.all ∙ append_assoc miss.gone (miss.mark ∷ miss.rest) x in
    byte_missing bytes p miss.mark miss.other (miss.rest ++ x) (cancel miss.gone (drop p bytes) (miss.mark ∷ (miss.rest ++ x)) (sym miss.is ∙ whole))

-- ---- which marks are due

pub stopped : (k : ℕ) (s : List ℕ) → goes_on k s ≡ false → due_then k s ≡ []
stopped zero s e = go s e
  where
    go : (s : List ℕ) → has_comma s ≡ false → opening s ≡ []
    go [] e = refl
    go (c ∷ s) e = pick (eqb c 44) s e (go s)
      where
        pick : (b : Bool) (s : List ℕ) → cond b true (has_comma s) ≡ false → (has_comma s ≡ false → opening s ≡ []) → cond b s (opening s) ≡ []
        pick true s e next = let z : ◌≡◌ {A = ℕ} 1 0 = ap (λ x. cond x 1 0) e in absurd (omega arith)
        pick false s e next = next e
stopped (suc k) s e = let z : ◌≡◌ {A = ℕ} 1 0 = ap (λ x. cond x 1 0) e in absurd (omega arith)
