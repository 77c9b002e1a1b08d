use native.Mathlib.Nat.{mod_self, zero-mod}
use Rattle.std.proofs.Common.{◌≡◌, ◌%◌, ap, ◌∙◌, arith}
use Rattle.campaigns.proofs.Euclid.{down, up}
use Rattle.campaigns.proofs.divisors.greatest_common_divisor.Goals as goal

pub loop-y-preserved : goal.loop-y-preserved
loop-y-preserved c = (
  λ d hy hr. c.loop-y.invariant.0 d (up c.loop-y.x c.loop-y.y d hy hr) hy,
  λ d ha hb. let h = c.loop-y.invariant.1 d ha hb in (h.1, down c.loop-y.x c.loop-y.y d h.0 h.1),
)

pub returns : goal.returns
returns c =
    let x = c.loop-y.x in
    let y0 : c.loop-y.y ≡ 0 = omega arith in
    let h = c.loop-y.invariant.0 x (mod_self x) (ap (λ n. n % x) y0 ∙ zero-mod x) in
    record { left = h.0; right = h.1; greatest = λ d ha hb. (c.loop-y.invariant.1 d ha hb).0 }
