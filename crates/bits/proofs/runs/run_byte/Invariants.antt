-- The invariant: the value is the numeral of the first `i` bits, so it stays below 2 ^ i.
use Prim.Native.Nat.{◌*◌}
use mathlib.Core.Path.{◌≡◌}
use Rattle.model.specs.Bits.{numeral}
use Rattle.bits.proofs.Bytes.{run_bit}
use Rattle.bits.proofs.runs.run_byte.Given as goal

abbrev pub invariant-loop-i : goal.invariant-loop-i
invariant-loop-i l = l.value ≡ numeral (run_bit l.width l.numbers) (8 * l.j) l.i
