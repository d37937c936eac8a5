use Prim.Native.Nat.{ℕ, ◌+◌, ◌*◌, ◌^◌, ◌<◌}
use mathlib.Core.Path.{◌≡◌}
use mathlib.Core.List.{List}
use native.Mathlib.Omega.{arith}
use lib.Pow.{pow_mono}
use Rattle.model.specs.Bits.{bit, field}
use Rattle.model.proofs.Bits.{field_fits}
use Rattle.bits.proofs.Bytes.{numeral_none, numeral_more}
use Rattle.bits.proofs.read_field.Goals as goal

-- no bits
none : (bytes : List ℕ) (at : ℕ) → 0 ≡ field bytes at 0
unfolding field
none bytes at = numeral_none (bit bytes) at

-- one bit more
one_more : (bytes : List ℕ) (at i : ℕ) → 2 * field bytes at i + bit bytes (at + i) ≡ field bytes at (i + 1)
unfolding field
one_more bytes at i = numeral_more (bit bytes) at i

-- there is room for one bit more
room : (bytes : List ℕ) (at i : ℕ) → i < 64 → 2 * field bytes at i + 1 < 2 ^ 64
room bytes at i l = omega (arith, field_fits bytes at i, pow_mono {i = i} {j = 63} (omega arith))

pub loop-i-init : goal.loop-i-init
loop-i-init c = none _ _

pub overflow_mul-value : goal.overflow_mul-value
overflow_mul-value c =
    let a = c.args in
    omega (arith, room a.bytes.now a.at c.loop-i.i (omega arith))

pub overflow_add-value : goal.overflow_add-value
overflow_add-value c =
    let a = c.args in
    omega (arith, room a.bytes.now a.at c.loop-i.i (omega arith))

pub loop-i-preserved : goal.loop-i-preserved
loop-i-preserved c =
    let a = c.args in
    omega (arith, one_more a.bytes.now a.at c.loop-i.i)

pub returns : goal.returns
returns c =
    let a = c.args in
    let all : c.loop-i.i ≡ a.width = omega arith in
    omega (arith, field_fits a.bytes.now a.at a.width, rw all at c.loop-i.invariant)
