use mathlib.Core.Path.{◌≡◌, sym, ap, ◌∙◌}
use native.Mathlib.Omega.{arith}
use Rattle.algebra.specs.Divisors.{gcd}
use Rattle.algebra.proofs.Divisors.{gcd_step, gcd_none}
use Rattle.divisors.proofs.gcd.Goals as goal

pub loop-right-preserved : goal.loop-right-preserved
loop-right-preserved c = sym (gcd_step c.loop-right.left c.loop-right.right) ∙ c.loop-right.invariant

pub returns : goal.returns
returns c =
    let left = c.loop-right.left in
    let none : c.loop-right.right ≡ 0 = omega arith in
    sym (gcd_none left) ∙ ap (gcd left) (sym none) ∙ c.loop-right.invariant
