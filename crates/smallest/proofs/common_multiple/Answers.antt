-- The first number times what is left of the second.
use native.Mathlib.Omega.{arith}
use Rattle.algebra.proofs.Divisors.{gcd_positive_left}
use Rattle.smallest.proofs.Capped.{multiple_small, multiple_in, multiple_above}
use Rattle.smallest.proofs.common_multiple.Goals as goal

pub returns-then-multiple-limit : goal.returns-then-multiple-limit
returns-then-multiple-limit c = let a = c.args in multiple_in a.limit a.a a.b c.gcd.ensures c.if-multiple-limit.true

pub returns-else-multiple-limit : goal.returns-else-multiple-limit
returns-else-multiple-limit c = let a = c.args in multiple_above a.limit a.a a.b c.gcd.ensures (omega (arith, c.if-multiple-limit.false))

pub nonzero_div-multiple : goal.nonzero_div-multiple
nonzero_div-multiple c = let a = c.args in rw c.gcd.ensures (gcd_positive_left a.a a.b c.requires.0)

pub overflow_mul-multiple : goal.overflow_mul-multiple
overflow_mul-multiple c = let a = c.args in record { fits = multiple_small a.a a.b c.gcd.result c.requires.1 c.requires.2 }
