-- The invariant: the first `done` bits of the field are put.
use Prim.Native.Nat.{◌-◌, ◌/◌, ◌^◌, ◌≤◌}
use mathlib.Core.Path.{◌≡◌}
use Rattle.bits.specs.Puts.{field_put}
use Rattle.bits.proofs.one_field.put_field.Given as goal

abbrev pub invariant-loop-done : goal.invariant-loop-done
invariant-loop-done l = (l.done ≤ l.width) × (l.out ≡ field_put l.initial.out l.at l.done (l.number / 2 ^ (l.width - l.done)))

abbrev pub decreases-loop-done : goal.decreases-loop-done
decreases-loop-done l = l.width - l.done
