-- The cut-off goes through products, sums and the greatest, so sums of cut-off tallies are the cut-off exact ones.
use Rattle.std.proofs.Common.{◌≡◌, ℕ, zero, suc, ◌+◌, ◌*◌, ◌<◌, ◌≤◌, min, max, List, [], ◌∷◌, Some, Option, sym, refl, ap, ◌∙◌, ap₂, ⊎_elim, mul_comm, mul-zero, le-mul_of_pos_right, arith}
use Rattle.std.proofs.lemmas.Bool.{cases_lt}
use Rattle.std.specs.List.{fold, slice_get}
use Rattle.spaces.specs.declared.space.Alternative.{Alternative}
use Rattle.numbering.specs.declared.tally.Tally.{Tally}
use Rattle.numbering.specs.Plans.{left_due, right_due, when_live}
use Rattle.numbering.specs.Tallies.{cut, joined, made, most_plans, of_alternative, of_list, plus}

pub made_is : {c d s t : ℕ} → c ≡ d → s ≡ t → made c s ≡ made d t
made_is p q = cc

-- ---- sums, one alternative after the other

plus_end : (t : Tally) → t ≡ cut t → t ≡ cut (plus t (made 0 0))
plus_end t h = h ∙ made_is (omega arith) (omega arith)

cut_cut : (t : Tally) → cut t ≡ cut (cut t)
cut_cut t = made_is (omega arith) (omega arith)

cut_left : (a r k : ℕ) → min (max (min a k) r) k ≡ min (max a r) k
cut_left a r k = omega arith

max_turn : (s u r : ℕ) → max (max s u) r ≡ max u (max s r)
max_turn s u r = omega arith

max_swap : (t s r : ℕ) → max t (max s r) ≡ max s (max t r)
max_swap t s r = omega arith

size_more : (s t r k : ℕ) → min (max (min (max s (min t k)) k) r) k ≡ min (max s (max t r)) k
size_more s t r k =
    cut_left (max s (min t k)) r k ∙ ap (λ n. min n k) (max_turn s (min t k) r) ∙ cut_left t (max s r) k ∙ ap (λ n. min n k) (max_swap t s r)

plus_more : (s t r : Tally) → cut (plus (cut (plus s (cut t))) r) ≡ cut (plus s (plus t r))
plus_more s t r = made_is (omega arith) (size_more s.size t.size r.size 1025)

-- one alternative of a list after the other added to the sum s
fold_more : (f : Option ℕ → Tally) (s : Tally) (xs : List Alternative) → s ≡ cut s → fold (λ t a. cut (plus t (cut (of_alternative f a)))) s xs ≡ cut (plus s (of_list f xs))
fold_more f s [] h = plus_end s h
fold_more f s (a ∷ xs) h =
    let t = cut (plus s (cut (of_alternative f a))) in
    fold_more f t xs (cut_cut (plus s (cut (of_alternative f a)))) ∙ plus_more s (of_alternative f a) (of_list f xs)

pub fold_list : (f : Option ℕ → Tally) (z : Tally) (xs : List Alternative) → (z.count ≡ 0) × (z.size ≡ 0) → fold (λ t a. cut (plus t (cut (of_alternative f a)))) z xs ≡ cut (of_list f xs)
fold_list f z xs h = fold_more f z xs (made_is (omega (arith, h.0)) (omega (arith, h.1))) ∙ made_is (omega (arith, h.0)) (omega (arith, h.1))

-- ---- products of cut-off counts

product_large : (x y k : ℕ) → 1 ≤ k → k ≤ x → min (min x k * min y k) k ≡ min (x * y) k
product_large x zero k p q =
    let z : min 0 k ≡ 0 = omega arith in
    let e : min x k * min 0 k ≡ 0 = ap (λ n. min x k * n) z ∙ mul-zero (min x k) in
    omega (arith, e, mul-zero x)
product_large x (suc y) k p q =
    let pos : 0 < min (suc y) k = omega arith in
    let posy : 0 < suc y = omega arith in
    let a = le-mul_of_pos_right (min x k) pos in
    let b = le-mul_of_pos_right x posy in
    let ka : k ≤ min x k * min (suc y) k = omega arith in
    let kb : k ≤ x * suc y = omega arith in
    omega (arith, ka, kb)

product_cut : (x y k : ℕ) → 1 ≤ k → min (min x k * min y k) k ≡ min (x * y) k
product_cut x y k p =
    ⊎_elim
    (λ a. ⊎_elim
    (λ b. let e : min x k ≡ x = omega arith in let h : min y k ≡ y = omega arith in
    ap (λ n. min (n * min y k) k) e ∙ ap (λ n. min (x * n) k) h)
    (λ b. ap (λ n. min n k) (mul_comm (min x k) (min y k)) ∙ product_large y x k p b ∙ ap (λ n. min n k) (mul_comm y x))
    (cases_lt y k))
    (λ a. product_large x y k p a)
    (cases_lt x k)

live_cut : (c d s t : ℕ) → (1 ≤ c → 1 ≤ d) → (1 ≤ d → 1 ≤ c) → min s 1025 ≡ min t 1025 → min (when_live c s) 1025 ≡ min (when_live d t) 1025
live_cut zero zero s t p q e = refl
live_cut zero (suc d) s t p q e = absurd (omega (arith, q (omega arith)))
live_cut (suc c) zero s t p q e = absurd (omega (arith, p (omega arith)))
live_cut (suc c) (suc d) s t p q e = e

made_cut : (c d s t : ℕ) → min c (suc most_plans) ≡ min d (suc most_plans) → min s 1025 ≡ min t 1025 → cut (made c (when_live c s)) ≡ cut (made d (when_live d t))
made_cut c d s t p q = made_is p (live_cut c d s t (λ h. omega arith) (λ h. omega arith) q)

joined_cut : (x y : Tally) → cut (joined (cut x) (cut y)) ≡ cut (joined x y)
joined_cut x y =
    made_cut _ _ (suc (min x.size 1025 + min y.size 1025)) (suc (x.size + y.size))
    (product_cut x.count y.count (suc most_plans) (omega arith)) (omega arith)

plus_cut : (x y : Tally) → cut (plus x y) ≡ cut (plus (cut x) (cut y))
plus_cut x y = made_is (omega arith) (omega arith)

pub list_cut : (f : Option ℕ → Tally) (xs : List Alternative) → cut (of_list (λ o. cut (f o)) xs) ≡ cut (of_list f xs)
list_cut f [] = refl
list_cut f (a ∷ xs) =
    plus_cut (of_alternative (λ o. cut (f o)) a) (of_list (λ o. cut (f o)) xs) ∙
    ap (λ t. cut (plus t (cut (of_list (λ o. cut (f o)) xs)))) (joined_cut (f (left_due a)) (f (right_due a))) ∙
    ap (λ t. cut (plus (cut (of_alternative f a)) t)) (list_cut f xs) ∙
    sym (plus_cut (of_alternative f a) (of_list f xs))

-- the tally of a list depends only on what is due in it
pub list_agree : (f h : Option ℕ → Tally) (xs : List Alternative) →
    ((i : ℕ) (a : Alternative) → slice_get xs i ≡ Some a → (f (left_due a) ≡ h (left_due a)) × (f (right_due a) ≡ h (right_due a))) → of_list f xs ≡ of_list h xs
list_agree f h [] same = refl
list_agree f h (a ∷ xs) same =
    ap₂ plus (ap₂ joined (same 0 a refl).0 (same 0 a refl).1) (list_agree f h xs (λ i b e. same (suc i) b e))
