-- The invariant: the sum so far is that of the first m numbers.
use mathlib.Core.Path.{◌≡◌}
use Prim.Native.Nat.{◌+◌}
use Rattle.algebra.specs.Arrays.{item}
use Rattle.algebra.specs.Bounded.{total_to}
use Rattle.plan.proofs.fits.moves_total.Given as goal

abbrev pub invariant-loop-m : goal.invariant-loop-m
invariant-loop-m l = l.sum ≡ total_to l.m (λ k. item l.x (l.start + k))
