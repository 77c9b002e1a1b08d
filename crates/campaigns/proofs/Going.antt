-- Histories go on, one after the other.
use Rattle.std.proofs.Common.{◌≡◌, ℕ, ◌+◌, ◌<◌, ◌⊎◌, List, [], ◌∷◌, ◌++◌, length, take, Ok, Err, Result, sym, refl, ap, ◌∙◌, inl, inr, append_assoc, arith, length-append}
use mathlib.Core.Path.{subst⁻¹}
use Rattle.std.proofs.lemmas.Result.{err_from_is_err_and}
use Rattle.std.specs.Result.{IsErrAnd}
use Rattle.spaces.specs.Spaces.{Meaning}
use Rattle.numbering.specs.declared.node.Node.{Node}
use Rattle.campaigns.specs.declared.campaign.Drawn.{Drawn}
use Rattle.campaigns.specs.declared.campaign.NotDrawn.{NotDrawn}
use Rattle.campaigns.specs.declared.campaign.NotRun.{NotRun}
use Rattle.campaigns.specs.declared.campaign.Pending.{Pending}
use Rattle.campaigns.specs.declared.campaign.Ran.{Ran}
use Rattle.campaigns.specs.declared.campaign.Ready.{Ready}
use Rattle.campaigns.specs.declared.conduct.Stopped.{Stopped}
use Rattle.campaigns.specs.declared.conduct.Stopped.TheVariants.{AtDraw, AtRun}
use Rattle.campaigns.specs.Calls.{Drew, Runs, Verdict}
use Rattle.campaigns.specs.Conduct.{Conducted, HistoriesGoOn, Turns, none, turn}
use Rattle.campaigns.specs.Histories.{Draw, Log, Steps, a_draw, a_run, a_skip, draw_refused, drawn_in, draws, no_draw, no_run, run_refused, runs, skips, still}
use Rattle.campaigns.specs.Refusals.{Lent}

append-nil : (ds : List Draw) → ds ++ [] ≡ ds
append-nil [] = refl
append-nil (d ∷ ds) = ap (λ x. d ∷ x) (append-nil ds)

-- the draws of two logs, the newer one first
drawn_append : (news log : Log) → drawn_in (news ++ log) ≡ drawn_in log ++ drawn_in news
drawn_append [] log = sym (append-nil (drawn_in log))
drawn_append (a_draw x list ∷ news) log = ap (λ ds. ds ++ (record { number = x; list = list } ∷ [])) (drawn_append news log) ∙ append_assoc (drawn_in log) (drawn_in news) (record { number = x; list = list } ∷ [])
drawn_append (no_draw e ∷ news) log = drawn_append news log
drawn_append (a_run o ∷ news) log = drawn_append news log
drawn_append (no_run e ∷ news) log = drawn_append news log
drawn_append (a_skip ∷ news) log = drawn_append news log

many_append : (news log : Log) → length (drawn_in (news ++ log)) ≡ length (drawn_in log) + length (drawn_in news)
many_append news log = ap length (drawn_append news log) ∙ length-append (drawn_in log) (drawn_in news)

turns_append : {news log : Log} → Turns news → Turns log → Turns (news ++ log)
turns_append none t = t
turns_append (turn x list o s) t = turn x list o (turns_append s t)

-- what the exit of a `?` hands back
told_err : (r : Result Ready Stopped) (e : Stopped) → IsErrAnd r (λ x. x ≡ e) → r ≡ Err e
told_err r e is = let y = err_from_is_err_and r is in y.1 ∙ ap Err y.2

module _ (m : Meaning) (verdict : Verdict) where
  -- some calls, and then others
  on : {s t : Ready ⊎ Pending} {f g : List ℕ} {older : Log} {u : Ready ⊎ Pending} {h : List ℕ} {newer : Log} → Steps m verdict s f t g older → Steps m verdict t g u h newer → Steps m verdict s f u h (newer ++ older)
  on p still = p
  on {older = older} p (draws lent old new c d finds log before h) = draws lent old new c d finds (log ++ older) (on p before) h
  on {older = older} p (draw_refused lent old new c d finds log before h) = draw_refused lent old new c d finds (log ++ older) (on p before) h
  on {older = older} p (runs lent values q d finds finds' log before h) = runs lent values q d finds finds' (log ++ older) (on p before) h
  on {older = older} p (run_refused lent values q d finds finds' log before h) = run_refused lent values q d finds finds' (log ++ older) (on p before) h
  on {older = older} p (skips q c finds log before h) = skips q c finds (log ++ older) (on p before) h

  pub histories_go_on : HistoriesGoOn m verdict
  histories_go_on start step baseline first s t finds finds' log news h steps =
      record { tallies = h.tallies; ready = h.ready; made = h.made; steps = on h.steps steps }

  pub no_turn : (c : Ready) (finds : List ℕ) → Conducted m verdict 0 c finds finds (Ok c)
  no_turn c finds = ([], still, none, refl)

  -- so many turns, and then what the next one comes to
  pub goes_on : (many limit : ℕ) (c d : Ready) (f g h : List ℕ) (r : Result Ready Stopped) → limit ≡ many + 1
      → Conducted m verdict many c f g (Ok d) → Conducted m verdict 1 d g h r → Conducted m verdict limit c f h r
  goes_on many limit c d f g h (Ok e) more p q =
      (q.0 ++ p.0, on p.1 q.1, turns_append q.2 p.2, omega (arith, many_append q.0 p.0, p.3, q.3))
  goes_on many limit c d f g h (Err (AtDraw e)) more p q =
      let s = q.2 in
      (q.0 ++ p.0, on p.1 q.1, (s.0 ++ p.0, ap (λ l. l ++ p.0) s.1, turns_append s.2 p.2, omega (arith, many_append s.0 p.0, p.3, s.3)))
  goes_on many limit c d f g h (Err (AtRun e)) more p q =
      let s = q.2 in
      (q.0 ++ p.0, on p.1 q.1, (s.0 ++ p.0, s.1, s.2, ap (λ l. l ++ p.0) s.3, turns_append s.4 p.2, omega (arith, many_append s.0 p.0, p.3, s.5)))

  -- some turns, and then a stop at the next one, which was not the last asked for
  pub stops : (many limit : ℕ) (c d : Ready) (f g h : List ℕ) (e : Stopped) (r : Result Ready Stopped) → many < limit
      → Conducted m verdict many c f g (Ok d) → Conducted m verdict 1 d g h (Err e) → IsErrAnd r (λ x. x ≡ e) → Conducted m verdict limit c f h r
  stops many limit c d f g h e r le p q is =
      subst⁻¹ (Conducted m verdict limit c f h) (told_err r e is) (early e (goes_on many (many + 1) c d f g h (Err e) refl p q))
    where
      early : (e : Stopped) → Conducted m verdict (many + 1) c f h (Err e) → Conducted m verdict limit c f h (Err e)
      early (AtDraw e) p = let s = p.2 in (p.0, p.1, (s.0, s.1, s.2, omega (arith, s.3)))
      early (AtRun e) p = let s = p.2 in (p.0, p.1, (s.0, s.1, s.2, s.3, s.4, omega (arith, s.5)))

  module _ (lent : Lent) (old new : List Node) (c : Ready) (f : List ℕ) where
    pub draw_stops : (d : NotDrawn) (r : Result Ready Stopped) → IsErrAnd r (λ e. e ≡ AtDraw d) → Drew m lent c old new (Err d) → Conducted m verdict 1 c f f r
    draw_stops d r is h =
        subst⁻¹ (Conducted m verdict 1 c f f) (told_err r (AtDraw d) is)
        (no_draw d.why ∷ [], draw_refused lent old new c d f [] still h, ([], refl, none, omega arith))

    module _ (d : Drawn) (drew : Drew m lent c old new (Ok d)) (lent' : Lent) (values : ℕ) (g : List ℕ) where
      abbrev drawn : Log
      drawn = a_draw d.number (take d.len new) ∷ []

      once_drawn : Steps m verdict (inl c) f (inr d.pending) f drawn
      once_drawn = draws lent old new c d f [] still drew

      pub one_turn : (r : Ran) → Runs verdict m lent' values d.pending f g (Ok r) → Conducted m verdict 1 c f g (Ok r.ready)
      one_turn r h =
          (a_run r.outcome ∷ drawn, runs lent' values d.pending r f g drawn once_drawn h, turn d.number (take d.len new) r.outcome none, refl)

      pub run_stops : (n : NotRun) (r : Result Ready Stopped) → IsErrAnd r (λ e. e ≡ AtRun n) → Runs verdict m lent' values d.pending f g (Err n) → Conducted m verdict 1 c f g r
      run_stops n r is h =
          subst⁻¹ (Conducted m verdict 1 c f g) (told_err r (AtRun n) is)
          (no_run n.why ∷ drawn, run_refused lent' values d.pending n f g drawn once_drawn h, ([], d.number, take d.len new, refl, none, omega arith))
