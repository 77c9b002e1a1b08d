-- The texts ahead and the marks due.
use Rattle.std.proofs.Common.{◌≡◌, ℕ, zero, suc, ◌+◌, true, false, cond, eqb, List, [], ◌∷◌, ◌++◌, length, sym, refl, ap, ◌∙◌, append_assoc, append-nil, arith, length-append}
use Rattle.numbering.specs.declared.node.Node.{Node}
use Rattle.spaces.specs.Kinds.{arity}
use Rattle.texts.specs.Layout.{marks, own_size, text_size, closing, opening, after, ahead}
use Rattle.texts.specs.Listed.{first, rest, past, texts, flat, text}
use Rattle.texts.specs.Texts.{label, wrapped}

pub flat_first : (ts : List (List ℕ)) → flat ts ≡ first ts ++ flat (rest ts)
flat_first [] = refl
flat_first (t ∷ ts) = refl

pub flat_size : (ts : List (List ℕ)) → length (flat ts) ≡ length (first ts) + length (flat (rest ts))
flat_size ts = ap length (flat_first ts) ∙ length-append (first ts) (flat (rest ts))

-- what a node of k children makes of the texts ahead, by size
pub grown_size : (k : ℕ) (lab : List ℕ) (ts : List (List ℕ)) →
    length ((lab ++ wrapped k (first ts) (first (rest ts))) ++ flat (past k ts)) ≡ length lab + marks k + length (flat ts)
grown_size zero lab ts = simp (length-append) (omega arith)
grown_size (suc zero) lab ts = simp (length-append) (omega (arith, flat_size ts))
grown_size (suc (suc k)) lab ts = simp (length-append) (omega (arith, flat_size ts, flat_size (rest ts)))

pub flat_texts : (ns : List Node) → length (flat (texts ns)) ≡ text_size ns
unfolding text_size
flat_texts [] = refl
flat_texts (n ∷ ns) = grown_size (arity n.alternative.kind) (label n) (texts ns) ∙ ap (λ k. own_size n + k) (flat_texts ns)

pub length_text : (ns : List Node) → length (text ns) ≡ text_size ns
unfolding text
length_text ns = flat_texts ns

pub length_after : (s : List ℕ) (ts : List (List ℕ)) → length (after s ts) ≡ length s + length (flat ts)
length_after [] ts = omega arith
length_after (c ∷ s) ts =
    ap suc (elim (eqb c 44) as (λ b. length (cond b (first ts ++ after s (rest ts)) (after s ts)) ≡ length s + length (flat ts)) [
      | true ↦ length-append (first ts) (after s (rest ts)) ∙ omega (arith, length_after s (rest ts), flat_size ts)
      | false ↦ length_after s ts
    ]) ∙ omega arith

pub length_ahead : (s : List ℕ) (ts : List (List ℕ)) → length (ahead s ts) ≡ length s + length (flat ts)
length_ahead s ts = length-append (first ts) (after s (rest ts)) ∙ omega (arith, length_after s (rest ts), flat_size ts)

-- after a leaf the marks up to a comma, and then the next text
pub after_leaf : (s : List ℕ) (ts : List (List ℕ)) → after s ts ≡ closing s ++ ahead (opening s) ts
after_leaf [] ts = flat_first ts
after_leaf (c ∷ s) ts =
    elim (eqb c 44) as (λ b. (c ∷ cond b (first ts ++ after s (rest ts)) (after s ts)) ≡ (c ∷ cond b [] (closing s)) ++ ahead (cond b s (opening s)) ts) [
      | true ↦ refl
      | false ↦ ap (λ x. c ∷ x) (after_leaf s ts)
    ]

pub ahead_leaf : (lab s : List ℕ) (ts : List (List ℕ)) → ahead s ((lab ++ wrapped 0 (first ts) (first (rest ts))) ∷ past 0 ts) ≡ lab ++ (closing s ++ ahead (opening s) ts)
ahead_leaf lab s ts = ap (λ x. x ++ after s ts) (append-nil lab) ∙ ap (λ x. lab ++ x) (after_leaf s ts)

pub ahead_one : (lab s : List ℕ) (ts : List (List ℕ)) → ahead s ((lab ++ wrapped 1 (first ts) (first (rest ts))) ∷ past 1 ts) ≡ lab ++ (40 ∷ ahead (41 ∷ s) ts)
ahead_one lab s ts = simp append_assoc

pub ahead_two : (lab s : List ℕ) (ts : List (List ℕ)) → ahead s ((lab ++ wrapped 2 (first ts) (first (rest ts))) ∷ past 2 ts) ≡ lab ++ (40 ∷ ahead (44 ∷ (41 ∷ s)) ts)
ahead_two lab s ts = simp append_assoc

-- with no node ahead the marks due are what is left
pub ahead_end : (s : List ℕ) → ahead s [] ≡ s
ahead_end [] = refl
ahead_end (c ∷ s) =
    ap (λ x. c ∷ x) (elim (eqb c 44) as (λ b. cond b (after s []) (after s []) ≡ s) [ true ↦ ahead_end s | false ↦ ahead_end s ])

pub ahead_start : (ns : List Node) → ahead [] (texts ns) ≡ text ns
unfolding text
ahead_start ns = sym (flat_first (texts ns))
