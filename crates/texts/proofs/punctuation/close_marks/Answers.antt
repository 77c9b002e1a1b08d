use Rattle.std.proofs.Common.{◌≡◌, ◌+◌, Bool, true, false, cond, List, [], ◌∷◌, ◌++◌, ℕ, vec_items, refl, sym, ap, ◌∙◌, subst, arith}
use Rattle.texts.specs.Parts.{byte_at}
use Rattle.texts.specs.Passing.{Missed, Passed, from_top}
use Rattle.texts.proofs.Passes.{Closing, closing_comma, closing_empty, closing_missing, closing_more, closing_pop, closing_start}
use Rattle.texts.proofs.punctuation.close_marks.Goals as goal

-- the mark m is taken off the stack, and looked for at n: the text is then read up to p
module _ (s0 bytes now v u : List ℕ) (i n m p : ℕ) (ate : Bool) (text : now ≡ bytes) (popped : v ≡ u ++ (m ∷ [])) (before : Closing s0 (from_top v) bytes i n)
    (stands : ate ≡ byte_at now n m) (at : p ≡ cond ate (n + 1) n) where
  here : byte_at bytes n m ≡ ate
  here = ap (λ b. byte_at b n m) (sym text) ∙ sym stands

  next : Closing s0 (m ∷ from_top u) bytes i n
  next = closing_pop s0 bytes v u i n m popped before

  past : (b : Bool) → ate ≡ b → p ≡ cond b (n + 1) n
  past b e = at ∙ ap (λ x. cond x (n + 1) n) e

  mark_missing : ate ≡ false → Missed 0 s0 bytes i p
  mark_missing e = subst (Missed 0 s0 bytes i) (sym (past false e)) (closing_missing s0 (from_top u) bytes i n m next (here ∙ e))

  mark_comma : ate ≡ true → m ≡ 44 → Passed 0 s0 (from_top u) bytes i p true
  mark_comma e is = subst (λ k. Passed 0 s0 (from_top u) bytes i k true) (sym (past true e)) (closing_comma s0 (from_top u) bytes i n m next (here ∙ e) is)

  mark_more : ate ≡ true → (m ≡ 44 → ⊥) → Closing s0 (from_top u) bytes i p
  mark_more e other = subst (Closing s0 (from_top u) bytes i) (sym (past true e)) (closing_more s0 (from_top u) bytes i n m next (here ∙ e) other)

pub loop-mark-init : goal.loop-mark-init
loop-mark-init c =
    let start = c.args.cursor.now in
    record { text = refl; passed = closing_start (from_top (vec_items c.args.marks.now)) start.text.now start.at start.within }

pub returns-then-not-eat-clause-marks : goal.returns-then-not-eat-clause-marks
returns-then-not-eat-clause-marks c =
    let before = c.loop-mark.invariant in
    mark_missing _ _ _ _ _ _ _ _ _ _ before.text c.in-Some.ensures.items before.passed c.eat.ensures.value c.eat.ensures.at c.if-not-eat.true

pub returns-then-mark-eq44-clause-marks : goal.returns-then-mark-eq44-clause-marks
returns-then-mark-eq44-clause-marks c =
    let before = c.loop-mark.invariant in
    mark_comma _ _ _ _ _ _ _ _ _ _ before.text c.in-Some.ensures.items before.passed c.eat.ensures.value c.eat.ensures.at c.if-not-eat.false c.if-mark-eq44.true

pub loop-mark-preserved : goal.loop-mark-preserved
loop-mark-preserved c =
    let before = c.loop-mark.invariant in
    record {
      text = c.eat.ensures.text ∙ before.text;
      passed = mark_more _ _ _ _ _ _ _ _ _ _ before.text c.in-Some.ensures.items before.passed c.eat.ensures.value c.eat.ensures.at c.if-not-eat.false c.if-mark-eq44.false;
    }

pub returns-clause-marks : goal.returns-clause-marks
returns-clause-marks c =
    let start = c.args.cursor.now in
    closing_empty (from_top (vec_items c.args.marks.now)) start.text.now (vec_items c.loop-mark.marks) (vec_items c.pop.new.self) start.at c.loop-mark.cursor.at
    (omega (arith, c.in_default.ensures.cases.0, c.loop-mark.marks.ok.0)) (omega (arith, c.in_default.ensures.cases.1, c.pop.new.self.ok.0)) c.loop-mark.invariant.passed
