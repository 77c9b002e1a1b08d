-- One node's turn, and the list of nodes at an index.
use Rattle.std.proofs.Common.{◌≡◌, ℕ, suc, ◌+◌, ◌-◌, ◌<◌, ◌≤◌, List, ◌∷◌, ◌++◌, length, get_or, take, drop, set, decimal, sym, ap, ◌∙◌, arith, length-append, take-append-drop}
use Rattle.std.specs.List.{between}
use Rattle.std.proofs.lemmas.List.{drop_more, drop_all, drop-drop}
use Rattle.numbering.specs.declared.node.Node.{Node}
use Rattle.spaces.specs.declared.kind.Kind.TheVariants.{Filter, HashJoin, IndexScan, MergeJoin, NestedLoops, Scan, Sort}
use Rattle.spaces.specs.declared.kind.Kind.{Kind}
use Rattle.spaces.specs.Kinds.{arity}
use Rattle.texts.specs.Layout.{laid, closing, ahead, text_size, own_size, marks, Turned}
use Rattle.texts.specs.Listed.{headed, texts, text}
use Rattle.texts.specs.Texts.{label}
use Rattle.texts.proofs.Laid.{length_laid, laid_is}
use Rattle.texts.proofs.Forests.{flat_texts, ahead_start, ahead_end}
use Rattle.texts.proofs.Marks.{closing_le, leaf_same, one_same, two_same, between_end, length_between_in}

abbrev pub blank : Node
blank = record { goal = 0; alternative = record { kind = Scan; tag = 0; left = 0; right = 0 } }

pub arity_most : (k : Kind) → arity k ≤ 2
arity_most Scan = omega arith
arity_most IndexScan = omega arith
arity_most HashJoin = omega arith
arity_most MergeJoin = omega arith
arity_most NestedLoops = omega arith
arity_most Filter = omega arith
arity_most Sort = omega arith

pub label_size : (k t g : ℕ) → length (k ∷ (decimal t ++ (64 ∷ decimal g))) ≡ 2 + length (decimal t) + length (decimal g)
label_size k t g = ap suc (length-append (decimal t) (64 ∷ decimal g)) ∙ omega arith

pub own_at : (n : Node) (k : ℕ) → arity n.alternative.kind ≡ k → own_size n ≡ 2 + length (decimal n.alternative.tag) + length (decimal n.goal) + marks k
own_at n k e = ap (λ j. length (label n) + marks j) e ∙ ap (λ j. j + marks k) (label_size 0 n.alternative.tag n.goal)

pub closed_le : (top end : ℕ) (o : List ℕ) → top ≤ end → end ≤ length o → length (closing (between top end o)) ≤ end - top
closed_le top end o h w = omega (arith, closing_le (between top end o), length_between_in top end o h w)

pub leaf_turned : (n : Node) (i top end next k : ℕ) (out o1 new : List ℕ) → arity n.alternative.kind ≡ 0 → i + own_size n ≤ top → top ≤ end → end ≤ length out →
    o1 ≡ laid i (label n) out → next ≡ i + length (label n) → k ≡ length (closing (between top end o1)) → new ≡ laid next (closing (between top end o1)) o1 →
    Turned n i top end out new (next + k) (top + k)
leaf_turned n i top end next k out o1 new e room within whole e1 e2 e3 e4 =
    let m : marks (arity n.alternative.kind) ≡ 0 = ap marks e in
    let w1 : end ≤ length o1 = omega (arith, ap length e1, length_laid i (label n) out) in
    record {
      same = λ ns h. leaf_same (label n) out o1 new (texts ns) i next top end k e1 e2 (omega arith) e3 e4
          ∙ ap (λ j. laid i (ahead (between top end out) (headed j (label n) (texts ns))) out) (sym e);
      room = λ j h. omega arith;
      within = omega (arith, closed_le top end o1 within w1);
    }

pub one_turned : (n : Node) (i top end next t : ℕ) (out o1 new : List ℕ) → arity n.alternative.kind ≡ 1 → i + own_size n ≤ top → top ≤ end → end ≤ length out →
    o1 ≡ laid i (label n) out → next ≡ i + length (label n) → top ≡ t + 1 → new ≡ set (set o1 next 40) t 41 →
    Turned n i top end out new (next + 1) t
one_turned n i top end next t out o1 new e room within whole e1 e2 et e4 =
    let m : marks (arity n.alternative.kind) ≡ 2 = ap marks e in
    record {
      same = λ ns h. one_same (label n) out o1 new (texts ns) i next top t end e1 e2 (omega (arith, flat_texts ns)) et within whole e4
          ∙ ap (λ j. laid i (ahead (between top end out) (headed j (label n) (texts ns))) out) (sym e);
      room = λ j h. omega arith;
      within = omega arith;
    }

pub two_turned : (n : Node) (i top end next t u : ℕ) (out o1 new : List ℕ) → arity n.alternative.kind ≡ 2 → i + own_size n ≤ top → top ≤ end → end ≤ length out →
    o1 ≡ laid i (label n) out → next ≡ i + length (label n) → top ≡ t + 1 → t ≡ u + 1 → new ≡ set (set (set o1 next 40) t 41) u 44 →
    Turned n i top end out new (next + 1) u
two_turned n i top end next t u out o1 new e room within whole e1 e2 et eu e4 =
    let m : marks (arity n.alternative.kind) ≡ 3 = ap marks e in
    record {
      same = λ ns h. two_same (label n) out o1 new (texts ns) i next top t u end e1 e2 (omega (arith, flat_texts ns)) et eu within whole e4
          ∙ ap (λ j. laid i (ahead (between top end out) (headed j (label n) (texts ns))) out) (sym e);
      room = λ j h. omega arith;
      within = omega arith;
    }

-- the nodes ahead at an index
pub size_more : (nodes : List Node) (i : ℕ) → i < length nodes → text_size (drop i nodes) ≡ own_size (get_or nodes i blank) + text_size (drop (i + 1) nodes)
unfolding text_size
size_more nodes i h = ap text_size (drop_more nodes i blank h)

pub size_all : (nodes : List Node) (i : ℕ) → length nodes ≤ i → text_size (drop i nodes) ≡ 0
unfolding text_size
size_all nodes i h = ap text_size (drop_all i nodes h)

-- what lies there already
pub laid_same : (t end : ℕ) (out : List ℕ) → t ≤ end → end ≤ length out → laid t (between t end out) out ≡ out
laid_same t end out h w =
    let bs = between t end out in
    let n : length bs ≡ end - t = length_between_in t end out h w in
    laid_is t bs out (omega arith)
    ∙ ap (λ k. take t out ++ (bs ++ drop (t + k) out)) n
    ∙ ap (λ x. take t out ++ (bs ++ x)) (sym (drop-drop (end - t) t out))
    ∙ ap (λ x. take t out ++ x) (take-append-drop (end - t) (drop t out))
    ∙ take-append-drop t out

pub text_start : (nodes : List Node) (i end : ℕ) (out : List ℕ) → laid i (ahead (between end end out) (texts nodes)) out ≡ laid i (text nodes) out
text_start nodes i end out =
    ap (λ s. laid i (ahead s (texts nodes)) out) (between_end end end out (omega arith)) ∙ ap (λ x. laid i x out) (ahead_start nodes)

pub text_more : (nodes : List Node) (k i top end p t : ℕ) (out new goal : List ℕ) → k < length nodes → top ≡ i + text_size (drop k nodes) →
    laid i (ahead (between top end out) (texts (drop k nodes))) out ≡ goal → Turned (get_or nodes k blank) i top end out new p t →
    (laid p (ahead (between t end new) (texts (drop (k + 1) nodes))) new ≡ goal) × (t ≡ p + text_size (drop (k + 1) nodes)) × (t ≤ end)
text_more nodes k i top end p t out new goal h room before turned =
    let r : top ≡ i + (own_size (get_or nodes k blank) + text_size (drop (k + 1) nodes)) = room ∙ ap (λ j. i + j) (size_more nodes k h) in (
      turned.same (drop (k + 1) nodes) r ∙ sym (ap (λ x. laid i (ahead (between top end out) (texts x)) out) (drop_more nodes k blank h)) ∙ before,
      turned.room (text_size (drop (k + 1) nodes)) r,
      turned.within,
    )

pub text_ends : (nodes : List Node) (k i top end : ℕ) (out goal : List ℕ) → length nodes ≤ k → top ≡ i + text_size (drop k nodes) → top ≤ end → end ≤ length out →
    laid i (ahead (between top end out) (texts (drop k nodes))) out ≡ goal → out ≡ goal
text_ends nodes k i top end out goal h room within whole before =
    let e : top ≡ i = omega (arith, size_all nodes k h) in
    sym (laid_same top end out within whole)
    ∙ ap (λ n. laid n (between top end out) out) e
    ∙ sym (ap (λ x. laid i x out) (ap (λ x. ahead (between top end out) (texts x)) (drop_all k nodes h) ∙ ahead_end (between top end out)))
    ∙ before
