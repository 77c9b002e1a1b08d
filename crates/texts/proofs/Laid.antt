-- Bytes written one after another.
use Rattle.std.proofs.Common.{◌≡◌, ℕ, suc, ◌+◌, ◌<◌, ◌≤◌, ◌≢◌, List, [], ◌∷◌, ◌++◌, length, take, drop, set, sym, refl, ap, ◌∙◌, ⊎_elim, append_assoc, add-zero, zero-add, arith, length-set, take-append-drop, take-suc-set, drop-set-lt, set-set}
use lib.Seq.{set_comm}
use Rattle.std.proofs.lemmas.Bool.{cases_eq}
use Rattle.texts.specs.Layout.{laid}

pub length_laid : (i : ℕ) (bs out : List ℕ) → length (laid i bs out) ≡ length out
length_laid i [] out = refl
length_laid i (b ∷ bs) out = length_laid (suc i) bs (set out i b) ∙ length-set out i b

pub laid_append : (i : ℕ) (xs ys out : List ℕ) → laid i (xs ++ ys) out ≡ laid (i + length xs) ys (laid i xs out)
laid_append i [] ys out = rw add-zero refl
laid_append i (x ∷ xs) ys out =
    let e : suc i + length xs ≡ i + suc (length xs) = omega arith in
    laid_append (suc i) xs ys (set out i x) ∙ ap (λ k. laid k ys (laid (suc i) xs (set out i x))) e

-- a write past the part that is laid
pub laid_set_past : (i : ℕ) (bs out : List ℕ) (j c : ℕ) → i + length bs ≤ j → laid i bs (set out j c) ≡ set (laid i bs out) j c
laid_set_past i [] out j c h = refl
laid_set_past i (b ∷ bs) out j c h =
    let ne : j ≢ i = omega arith in
    ap (laid (suc i) bs) (set_comm out j i c b ne) ∙ laid_set_past (suc i) bs (set out i b) j c (omega arith)

-- a write within it
pub laid_set : (i : ℕ) (bs out : List ℕ) (j c : ℕ) → i ≤ j → j < i + length bs → laid i bs (set out j c) ≡ laid i bs out
laid_set i [] out j c h k = absurd (omega arith)
laid_set i (b ∷ bs) out j c h k =
    ⊎_elim
    (λ (e : j ≡ i). ap (λ n. laid (suc i) bs (set (set out n c) i b)) e ∙ ap (laid (suc i) bs) (set-set out i c b))
    (λ (ne : j ≢ i). ap (laid (suc i) bs) (set_comm out j i c b ne) ∙ laid_set (suc i) bs (set out i b) j c (omega arith) (omega arith))
    (cases_eq j i)

pub drop_laid : (n i : ℕ) (bs out : List ℕ) → i + length bs ≤ n → drop n (laid i bs out) ≡ drop n out
drop_laid n i [] out h = refl
drop_laid n i (b ∷ bs) out h = drop_laid n (suc i) bs (set out i b) (omega arith) ∙ drop-set-lt n out i b (omega arith)

-- the last byte first
pub laid_push : (i : ℕ) (bs out : List ℕ) (c : ℕ) → laid i (bs ++ (c ∷ [])) out ≡ laid i bs (set out (i + length bs) c)
laid_push i bs out c = laid_append i bs (c ∷ []) out ∙ sym (laid_set_past i bs out (i + length bs) c (omega arith))

pub laid_is : (i : ℕ) (bs out : List ℕ) → i + length bs ≤ length out → laid i bs out ≡ take i out ++ (bs ++ drop (i + length bs) out)
laid_is i [] out h = rw add-zero (sym (take-append-drop i out))
laid_is i (b ∷ bs) out h =
    let n : ℕ = suc i + length bs in
    let e : n ≡ i + suc (length bs) = omega arith in
    let o = set out i b in
    laid_is (suc i) bs o (omega (arith, length-set out i b))
    ∙ ap (λ x. x ++ (bs ++ drop n o)) (take-suc-set out i b (omega arith))
    ∙ append_assoc (take i out) (b ∷ []) (bs ++ drop n o)
    ∙ ap (λ x. take i out ++ (b ∷ (bs ++ x))) (drop-set-lt n out i b (omega arith) ∙ ap (λ k. drop k out) e)

pub laid_start : (bs out : List ℕ) → length bs ≤ length out → laid 0 bs out ≡ bs ++ drop (length bs) out
laid_start bs out h = laid_is 0 bs out (omega arith) ∙ ap (λ k. bs ++ drop k out) (zero-add (length bs))
