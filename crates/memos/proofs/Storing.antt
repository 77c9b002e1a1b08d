-- The list of all alternatives, with one more at its end.
use Rattle.std.proofs.Common.{◌≡◌, ℕ, zero, suc, ◌+◌, ◌-◌, ◌<◌, ◌≤◌, Bool, ◌||◌, List, [], ◌∷◌, ◌++◌, length, get_or, take, drop, replicate, sym, refl, ap, ◌∙◌, inl, inr, arith, length-drop}
use Rattle.std.specs.List.{list_any}
use Rattle.std.proofs.lemmas.Bool.{cases_lt}
use Rattle.std.proofs.lemmas.List.{drop-append-le, get_or-replicate, get_or_default, get_or_past, length-replicate, length_push, take-append-le, take_all, take_rest}
use Rattle.spaces.specs.declared.space.Alternative.{Alternative}
use Rattle.memos.specs.Opens.{Stored}
use Rattle.memos.specs.Rules.{among, same as alike}
use Rattle.memos.specs.Slices.{Indexed, begins, sliced}

-- ---------- one more

all_end : (n d k : ℕ) → get_or (replicate n d) k d ≡ d
all_end n d k = elim (cases_lt k n) [
  | inl h ↦ get_or-replicate n k d d h
  | inr h ↦ get_or_past (replicate n d) k d (omega (arith, length-replicate n d))
]

-- starts that say the end of the list are as good as none
padded : (starts : List ℕ) (n d k : ℕ) → get_or (starts ++ replicate n d) k d ≡ get_or starts k d
padded [] n d k = all_end n d k
padded (s ∷ starts) n d zero = refl
padded (s ∷ starts) n d (suc k) = padded starts n d k

-- The starts `more` are those that stood, and up to `goal` the end of the list.
module _ (goal : ℕ) (items : List Alternative) (starts more : List ℕ) (n d : ℕ) (ix : Indexed items starts) (few : length starts ≤ goal + 1) (ends : d ≡ length items) (is : more ≡ take (goal + 1) starts ++ replicate n d) (long : length more ≡ goal + 1) where
  same : (k : ℕ) → begins items more k ≡ begins items starts k
  same k =
      ap (λ xs. get_or xs k (length items)) (is ∙ (λ i. take_all (goal + 1) starts few i ++ replicate n (ends i)))
      ∙ padded starts n (length items) k

  early : (now : List Alternative) (k : ℕ) → k ≤ goal → begins now more k ≡ begins items starts k
  early now k h = get_or_default more k (length now) (length items) (omega arith) ∙ same k

  late : (xs : List Alternative) (k : ℕ) → goal < k → begins xs more k ≡ length xs
  late xs k h = get_or_past more k (length xs) (omega arith)

  pub stored_indexed : (now : List Alternative) → length items ≤ length now → Indexed now more
  stored_indexed now grown = (rises, within)
    where
      within : (k : ℕ) → begins now more k ≤ length now
      within k = elim (cases_lt goal k) [ inl h ↦ omega (arith, late now k h) | inr h ↦ omega (arith, early now k h, ix.1 k) ]

      rises : (k : ℕ) → begins now more k ≤ begins now more (k + 1)
      rises k = elim (cases_lt goal (k + 1)) [
        | inl h ↦ omega (arith, within k, late now (k + 1) h)
        | inr h ↦ omega (arith, early now k (omega arith), early now (k + 1) h, ix.0 k)
      ]

  module _ (a : Alternative) where
    abbrev now : List Alternative
    now = items ++ (a ∷ [])

    -- what stands from the begin of a goal on that is at most the last
    behind : (k : ℕ) → k ≤ goal → drop (begins now more k) now ≡ drop (begins items starts k) items ++ (a ∷ [])
    behind k h = ap (λ s. drop s now) (early now k h) ∙ drop-append-le (begins items starts k) items (a ∷ []) (ix.1 k)

    own : sliced now more goal ≡ sliced items starts goal ++ (a ∷ [])
    own =
        let s = begins items starts goal in
        let tail = drop s items ++ (a ∷ []) in
        let w : s ≤ length items = ix.1 goal in
        let t : length tail ≡ length (drop s items) + 1 = length_push (drop s items) a in
        (λ i. take ((late now (goal + 1) (omega arith) ∙ length_push items a) i - early now goal (omega arith) i) (behind goal (omega arith) i))
        ∙ take_all (length items + 1 - s) tail (omega (arith, length-drop s items))
        ∙ ap (λ xs. xs ++ (a ∷ [])) (sym (ap (λ e. take (e - s) (drop s items)) (sym (same (goal + 1)) ∙ late items (goal + 1) (omega arith)) ∙ take_rest items s))

    lower : (k : ℕ) → k < goal → sliced now more k ≡ sliced items starts k
    lower k h =
        let s = begins items starts k in
        let e = begins items starts (k + 1) in
        (λ i. take (early now (k + 1) (omega arith) i - early now k (omega arith) i) (behind k (omega arith) i))
        ∙ take-append-le (e - s) (drop s items) (a ∷ []) (omega (arith, length-drop s items, ix.1 (k + 1)))

    none : (xs : List Alternative) (k : ℕ) → goal < k → sliced xs more k ≡ []
    none xs k h =
        let z : begins xs more (k + 1) - begins xs more k ≡ 0 = omega (arith, late xs k h, late xs (k + 1) (omega arith)) in
        ap (λ e. take e (drop (begins xs more k) xs)) z

    higher : (k : ℕ) → goal < k → sliced now more k ≡ sliced items starts k
    higher k h = none now k h ∙ sym (none items k h) ∙ (λ i. take (same (k + 1) i - same k i) (drop (same k i) items))

    pub stored : Stored (sliced items starts) (sliced now more) (record { goal = goal; alternative = a })
    stored = record {
      own = own;
      others = λ k ne. elim (cases_lt k goal) [ inl h ↦ lower k h | inr h ↦ higher k (omega arith) ];
    }

-- ---------- what stands in a list

any_among : (p : Alternative → Bool) (a : Alternative) → ((x : Alternative) → p x ≡ alike x a) → (xs : List Alternative) → list_any p xs ≡ among xs a
any_among p a h [] = refl
any_among p a h (x ∷ xs) = λ i. h x i || any_among p a h xs i

-- what `contains` answers
pub contained : (p : Alternative → Bool) (xs : List Alternative) (a : Alternative) (b : Bool) → b ≡ list_any p xs → ((x : Alternative) → p x ≡ alike x a) → b ≡ among xs a
contained p xs a b e h = e ∙ any_among p a h xs
