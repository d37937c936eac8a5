-- The invariant: the places from `at` on hold the first m weights, divided.
use Prim.Native.Nat.{◌+◌, ◌/◌}
use Rattle.algebra.specs.Arrays.{item}
use Rattle.algebra.proofs.Arrays.{Placing}
use Rattle.to_sheet.proofs.parts.put_parts.Given as goal

abbrev pub invariant-loop-m : goal.invariant-loop-m
invariant-loop-m l = Placing l.at (λ k. item l.x (l.set.start + k) / l.divisor) l.set.moves l.initial.out l.m l.out
