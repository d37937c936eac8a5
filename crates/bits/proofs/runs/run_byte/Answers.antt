use Prim.Native.Nat.{◌*◌, ◌^◌, ◌<◌}
use native.Mathlib.Omega.{arith}
use Rattle.bits.proofs.Bytes.{run_bit, numeral_none, numeral_more, run_room}
use Rattle.bits.proofs.runs.run_byte.Goals as goal
use Rattle.bits.proofs.runs.run_byte.Goals.{At-loop-i}

small : (c : At-loop-i) → c.loop-i.value < 2 ^ 8
small c =
    let a = c.args in
    rw c.loop-i.invariant (run_room a.width a.numbers.now (8 * a.j) c.loop-i.i (omega arith))

pub loop-i-preserved : goal.loop-i-preserved
loop-i-preserved c =
    let a = c.args in
    rw (c.loop-i.invariant, c.run_bit.ensures.0) (numeral_more (run_bit a.width a.numbers.now) (8 * a.j) c.loop-i.i)

pub loop-i-init : goal.loop-i-init
loop-i-init c = numeral_none _ _

pub overflow_mul-value : goal.overflow_mul-value
overflow_mul-value c = omega (arith, small (goal.at.overflow_mul-value c).At-loop-i)

pub overflow_add-value : goal.overflow_add-value
overflow_add-value c = omega (arith, small (goal.at.overflow_add-value c).At-loop-i)

pub overflow_cast-result : goal.overflow_cast-result
overflow_cast-result c = omega (arith, small (goal.at.overflow_cast-result c).At-loop-i)
