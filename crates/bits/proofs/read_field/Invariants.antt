-- `bits::read_field` meets its contract. After i turns the value is the field of i bits: below 2 ^ 63 while a bit is missing, so that twice it and a bit is below 2 ^ 64.
use mathlib.Core.Path.{◌≡◌}
use Rattle.model.specs.Bits.{field}
use Rattle.bits.proofs.read_field.Given as goal

abbrev pub invariant-loop-i : goal.invariant-loop-i
invariant-loop-i l = l.value ≡ field l.bytes l.at l.i
