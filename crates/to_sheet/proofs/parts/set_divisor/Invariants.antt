-- The invariant: the divisor of the first m weights.
use Prim.Native.Nat.{◌+◌}
use Rattle.algebra.specs.Arrays.{item}
use Rattle.to_sheet.proofs.Dividing.{Dividing}
use Rattle.to_sheet.proofs.parts.set_divisor.Given as goal

abbrev pub invariant-loop-m : goal.invariant-loop-m
invariant-loop-m l = Dividing (λ k. item l.x (l.set.start + k)) l.set.moves l.m l.divisor
