-- The invariant: the first `j` bytes of the run are put, and the other bytes are as they were.
use Prim.Native.Nat.{◌+◌, ◌*◌, ◌/◌}
use lib.ListN.{length}
use Rattle.algebra.proofs.Arrays.{Placing}
use Rattle.bits.proofs.Bytes.{run_byte}
use Rattle.bits.proofs.runs.put_run.Given as goal

abbrev pub invariant-loop-j : goal.invariant-loop-j
invariant-loop-j l = Placing l.from (run_byte l.width l.numbers) ((l.width * length l.numbers + 7) / 8) l.initial.out l.j l.out
