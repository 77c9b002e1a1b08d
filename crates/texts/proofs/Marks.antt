-- The marks due at the end of the part of the buffer that is written.
use Rattle.std.proofs.Common.{◌≡◌, ℕ, suc, ◌+◌, ◌-◌, ◌<◌, ◌≤◌, true, false, cond, eqb, List, [], ◌∷◌, ◌++◌, length, get_or, take, drop, set, sym, refl, ap, ◌∙◌, add-one, arith, length-drop, length-set, drop-set-lt}
use Rattle.std.specs.List.{between}
use Rattle.std.proofs.lemmas.List.{drop_more, drop-set, drop-drop, length-take-le}
use Rattle.std.proofs.lemmas.Slice.{between_is}
use Rattle.std.proofs.lemmas.Bool.{ne_eqb}
use Rattle.texts.specs.Layout.{laid, closing, opening, ahead}
use Rattle.texts.specs.Listed.{flat, headed}
use Rattle.texts.proofs.Laid.{length_laid, laid_append, laid_set, drop_laid}
use Rattle.texts.proofs.Forests.{length_ahead, ahead_leaf, ahead_one, ahead_two}

pub between_set : (t end j c : ℕ) (out : List ℕ) → j < t → between t end (set out j c) ≡ between t end out
between_set t end j c out h = ap (take (end - t)) (drop-set-lt t out j c h)

-- a mark put before those due
pub between_push : (t top end c : ℕ) (out : List ℕ) → top ≡ t + 1 → top ≤ end → end ≤ length out → between t end (set out t c) ≡ c ∷ between top end out
between_push t top end c out e h w =
    let f : end - t ≡ suc (end - top) = omega arith in
    ap (λ k. take k (drop t (set out t c))) f ∙ ap (take (suc (end - top))) (drop-set out t c (omega arith))
    ∙ ap (λ k. c ∷ take (end - top) (drop k out)) (sym e)

pub between_end : (t end : ℕ) (out : List ℕ) → end ≤ t → between t end out ≡ []
between_end t end out h = let e : end - t ≡ 0 = omega arith in ap (λ k. take k (drop t out)) e

pub between_laid : (t end i : ℕ) (bs out : List ℕ) → i + length bs ≤ t → between t end (laid i bs out) ≡ between t end out
between_laid t end i bs out h = ap (take (end - t)) (drop_laid t i bs out h)

pub between_past : (t end k : ℕ) (out : List ℕ) → between (t + k) end out ≡ drop k (between t end out)
between_past t end k out =
    between_is out (t + k) end ∙ sym (drop-drop k t (take end out)) ∙ ap (drop k) (sym (between_is out t end))

pub length_between_in : (t end : ℕ) (out : List ℕ) → t ≤ end → end ≤ length out → length (between t end out) ≡ end - t
length_between_in t end out h w = length-take-le (end - t) (drop t out) (omega (arith, length-drop t out))

pub opening_drop : (s : List ℕ) → drop (length (closing s)) s ≡ opening s
opening_drop [] = refl
opening_drop (c ∷ s) =
    elim (eqb c 44) as (λ b. drop (length (cond b [] (closing s))) s ≡ cond b s (opening s)) [ true ↦ refl | false ↦ opening_drop s ]

pub closing_le : (s : List ℕ) → length (closing s) ≤ length s
closing_le [] = omega arith
closing_le (c ∷ s) =
    elim (eqb c 44) as (λ b. suc (length (cond b [] (closing s))) ≤ suc (length s)) [ true ↦ omega arith | false ↦ omega (arith, closing_le s) ]

-- the marks up to the first comma, moved one by one: the mark m from t to p
closing_other : (m : ℕ) (s : List ℕ) → (m ≡ 44 → ⊥) → closing (m ∷ s) ≡ m ∷ closing s
closing_other m s ne = ap (λ b. m ∷ cond b [] (closing s)) (ne_eqb m 44 ne)

closing_comma : (m : ℕ) (s : List ℕ) → m ≡ 44 → closing (m ∷ s) ≡ m ∷ []
closing_comma m s e = ap (λ k. m ∷ cond (eqb k 44) [] (closing s)) e

between_cons : (t end : ℕ) (out : List ℕ) → t < end → end ≤ length out → between t end out ≡ get_or out t 0 ∷ between (t + 1) end out
between_cons t end out h w =
    let e : end - t ≡ suc (end - (t + 1)) = omega arith in
    ap (λ k. take k (drop t out)) e ∙ ap (take (suc (end - (t + 1)))) (drop_more out t 0 (omega arith))

module _ (p t end m : ℕ) (out new : List ℕ) (lt : t < end) (whole : end ≤ length out) (got : m ≡ get_or out t 0) (set_is : new ≡ set out p m) where
  here : between t end out ≡ m ∷ between (t + 1) end out
  here = between_cons t end out lt whole ∙ ap (λ x. x ∷ between (t + 1) end out) (sym got)

  pub close_more : p ≤ t → (m ≡ 44 → ⊥) →
      (length (closing (between t end out)) ≡ suc (length (closing (between (t + 1) end new))))
      × (laid (p + 1) (closing (between (t + 1) end new)) new ≡ laid p (closing (between t end out)) out)
  close_more le other =
      let rest : between (t + 1) end new ≡ between (t + 1) end out = ap (between (t + 1) end) set_is ∙ between_set (t + 1) end p m out (omega arith) in
      let all : closing (between t end out) ≡ m ∷ closing (between (t + 1) end new) =
      ap closing here ∙ closing_other m (between (t + 1) end out) other ∙ ap (λ s. m ∷ closing s) (sym rest) in
      (ap length all, ap (λ k. laid k (closing (between (t + 1) end new)) new) (add-one p) ∙ ap (laid (suc p) (closing (between (t + 1) end new))) set_is ∙ sym (ap (λ s. laid p s out) all))

  pub close_comma : m ≡ 44 → (length (closing (between t end out)) ≡ 1) × (new ≡ laid p (closing (between t end out)) out)
  close_comma comma =
      let all : closing (between t end out) ≡ m ∷ [] = ap closing here ∙ closing_comma m (between (t + 1) end out) comma in
      (ap length all, set_is ∙ sym (ap (λ s. laid p s out) all))

-- one node: lab is its own part, and ts are the texts ahead of it
pub leaf_same : (lab out o1 new : List ℕ) (ts : List (List ℕ)) (i next top end k : ℕ) →
    o1 ≡ laid i lab out → next ≡ i + length lab → next ≤ top →
    k ≡ length (closing (between top end o1)) → new ≡ laid next (closing (between top end o1)) o1 →
    laid (next + k) (ahead (between (top + k) end new) ts) new ≡ laid i (ahead (between top end out) (headed 0 lab ts)) out
leaf_same lab out o1 new ts i next top end k e1 e2 h e3 e4 =
    let s = between top end o1 in
    let s_is : s ≡ between top end out = ap (between top end) e1 ∙ between_laid top end i lab out (omega arith) in
    let left : between (top + k) end new ≡ opening s =
    ap (between (top + k) end) e4 ∙ between_laid (top + k) end next (closing s) o1 (omega arith)
    ∙ between_past top end k o1 ∙ ap (λ n. drop n s) e3 ∙ opening_drop s in
    let x : List ℕ = ahead (opening s) ts in
    ap (λ r. laid (next + k) (ahead r ts) new) left
    ∙ ap (λ n. laid (next + n) x new) e3
    ∙ ap (laid (next + length (closing s)) x) e4
    ∙ sym (laid_append next (closing s) x o1)
    ∙ ap (λ n. laid n (closing s ++ x) o1) e2
    ∙ ap (laid (i + length lab) (closing s ++ x)) e1
    ∙ sym (laid_append i lab (closing s ++ x) out)
    ∙ ap (λ y. laid i y out) (sym (ahead_leaf lab s ts))
    ∙ ap (λ r. laid i (ahead r (headed 0 lab ts)) out) s_is

pub one_same : (lab out o1 new : List ℕ) (ts : List (List ℕ)) (i next top t end : ℕ) →
    o1 ≡ laid i lab out → next ≡ i + length lab → top ≡ next + (2 + length (flat ts)) → top ≡ t + 1 → top ≤ end → end ≤ length out →
    new ≡ set (set o1 next 40) t 41 →
    laid (next + 1) (ahead (between t end new) ts) new ≡ laid i (ahead (between top end out) (headed 1 lab ts)) out
one_same lab out o1 new ts i next top t end e1 e2 room e h w e4 =
    let o2 = set o1 next 40 in
    let s = between top end out in
    let w2 : end ≤ length o2 = omega (arith, length-set o1 next 40, ap length e1, length_laid i lab out) in
    let s_is : between top end o2 ≡ s = between_set top end next 40 o1 (omega arith) ∙ ap (between top end) e1 ∙ between_laid top end i lab out (omega arith) in
    let left : between t end new ≡ 41 ∷ s = ap (between t end) e4 ∙ between_push t top end 41 o2 e h w2 ∙ ap (λ r. 41 ∷ r) s_is in
    let x : List ℕ = ahead (41 ∷ s) ts in
    let size : length x ≡ suc (length s) + length (flat ts) = length_ahead (41 ∷ s) ts in
    ap (λ r. laid (next + 1) (ahead r ts) new) left
    ∙ ap (laid (next + 1) x) e4
    ∙ laid_set (next + 1) x o2 t 41 (omega arith) (omega arith)
    ∙ ap (λ n. laid n x o2) (add-one next)
    ∙ ap (λ n. laid n (40 ∷ x) o1) e2
    ∙ ap (laid (i + length lab) (40 ∷ x)) e1
    ∙ sym (laid_append i lab (40 ∷ x) out)
    ∙ ap (λ y. laid i y out) (sym (ahead_one lab s ts))

pub two_same : (lab out o1 new : List ℕ) (ts : List (List ℕ)) (i next top t u end : ℕ) →
    o1 ≡ laid i lab out → next ≡ i + length lab → top ≡ next + (3 + length (flat ts)) → top ≡ t + 1 → t ≡ u + 1 → top ≤ end → end ≤ length out →
    new ≡ set (set (set o1 next 40) t 41) u 44 →
    laid (next + 1) (ahead (between u end new) ts) new ≡ laid i (ahead (between top end out) (headed 2 lab ts)) out
two_same lab out o1 new ts i next top t u end e1 e2 room e f h w e4 =
    let o2 = set o1 next 40 in
    let o3 = set o2 t 41 in
    let s = between top end out in
    let w2 : end ≤ length o2 = omega (arith, length-set o1 next 40, ap length e1, length_laid i lab out) in
    let w3 : end ≤ length o3 = omega (arith, length-set o2 t 41) in
    let s_is : between top end o2 ≡ s = between_set top end next 40 o1 (omega arith) ∙ ap (between top end) e1 ∙ between_laid top end i lab out (omega arith) in
    let left : between u end new ≡ 44 ∷ (41 ∷ s) =
    ap (between u end) e4 ∙ between_push u t end 44 o3 f (omega arith) w3 ∙ ap (λ r. 44 ∷ r) (between_push t top end 41 o2 e h w2 ∙ ap (λ r. 41 ∷ r) s_is) in
    let x : List ℕ = ahead (44 ∷ (41 ∷ s)) ts in
    let size : length x ≡ suc (suc (length s)) + length (flat ts) = length_ahead (44 ∷ (41 ∷ s)) ts in
    ap (λ r. laid (next + 1) (ahead r ts) new) left
    ∙ ap (laid (next + 1) x) e4
    ∙ laid_set (next + 1) x o3 u 44 (omega arith) (omega arith)
    ∙ laid_set (next + 1) x o2 t 41 (omega arith) (omega arith)
    ∙ ap (λ n. laid n x o2) (add-one next)
    ∙ ap (λ n. laid n (40 ∷ x) o1) e2
    ∙ ap (laid (i + length lab) (40 ∷ x)) e1
    ∙ sym (laid_append i lab (40 ∷ x) out)
    ∙ ap (λ y. laid i y out) (sym (ahead_two lab s ts))
