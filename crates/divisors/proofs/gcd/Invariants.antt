-- The invariant: the two numbers have the divisor that is asked for. A division keeps it, and the measure, the second number, falls; beside 0 it is the first.
use mathlib.Core.Path.{◌≡◌}
use Rattle.algebra.specs.Divisors.{gcd}
use Rattle.divisors.proofs.gcd.Given as goal

abbrev pub invariant-loop-right : goal.invariant-loop-right
invariant-loop-right l = gcd l.left l.right ≡ gcd l.a l.b

abbrev pub decreases-loop-right : goal.decreases-loop-right
decreases-loop-right l = l.right
