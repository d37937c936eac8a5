-- The invariant: `best` is the lowest-numbered worthiest of the first `m` moves.
use Prim.Native.Nat.{◌+◌}
use Rattle.algebra.specs.Arrays.{item_z}
use Rattle.responses.proofs.Greatest.{Foremost}
use Rattle.responses.proofs.moves.best_move.Given as goal

abbrev pub invariant-loop-m : goal.invariant-loop-m
invariant-loop-m l = Foremost (λ j. item_z l.worths (l.start + j)) l.m l.best
