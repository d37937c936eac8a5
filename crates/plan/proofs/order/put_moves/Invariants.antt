-- The invariant: the places from `at` on hold the first `i` weights.
use Prim.Native.Nat.{suc}
use Rattle.algebra.specs.Arrays.{item}
use Rattle.algebra.proofs.Arrays.{Placing}
use Rattle.plan.proofs.order.put_moves.Given as goal

abbrev pub invariant-loop-i : goal.invariant-loop-i
invariant-loop-i l = Placing l.run.before (λ k. item l.x (suc k)) l.run.count l.initial.out l.i l.out
