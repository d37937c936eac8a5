-- The invariant: the first `i` fields of the run are read, and the other places are as they were. A field of at most 16 bits fits its place.
use Prim.Native.Nat.{◌+◌, ◌*◌}
use Rattle.algebra.proofs.Arrays.{Placing}
use Rattle.model.specs.Bits.{field}
use Rattle.bits.proofs.runs.read_run.Given as goal

abbrev pub invariant-loop-i : goal.invariant-loop-i
invariant-loop-i l = Placing l.from (λ k. field l.bytes (l.at + l.width * k) l.width) l.count l.initial.out l.i l.out
