-- Numerator and denominator are multiplied, and divided by their greatest common divisor.
use mathlib.Core.Path.{refl}
use native.Mathlib.Omega.{arith}
use native.Mathlib.Nat as NatL
use Rattle.algebra.proofs.Divisors.{gcd_positive_left}
use Rattle.smallest.proofs.Lowest.{numerator_small, denominator_small, times_none, times_some}
use Rattle.smallest.proofs.extended.Goals as goal

pub returns : goal.returns
returns c = let a = c.args in times_some a.before a.odds a.total c.if-numerator-eq0.false c.gcd-divisor.ensures

-- the divisor is not 0
pub nonzero_div-result : goal.nonzero_div-result
nonzero_div-result c = rw c.gcd-divisor.ensures (gcd_positive_left _ _ (NatL.pos_of_ne-zero c.if-numerator-eq0.false))

pub overflow_mul-numerator : goal.overflow_mul-numerator
overflow_mul-numerator c = record { fits = omega (arith, numerator_small c.requires.0 c.requires.1) }

pub returns-then-numerator-eq0 : goal.returns-then-numerator-eq0
returns-then-numerator-eq0 c = let a = c.args in times_none a.before a.odds a.total refl c.if-numerator-eq0.true

pub overflow_mul-denominator : goal.overflow_mul-denominator
overflow_mul-denominator c = record { fits = omega (arith, denominator_small c.requires.0 c.requires.2) }

pub nonzero_div-result-2 : goal.nonzero_div-result-2
nonzero_div-result-2 c = nonzero_div-result c
