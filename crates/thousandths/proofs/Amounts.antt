-- An amount rounded up, compared with a number of thousandths.
use Prim.Native.Nat.{ℕ, suc, ◌+◌, ◌-◌, ◌*◌, ◌/◌, ◌%◌, ◌<◌}
use mathlib.Core.Path.{◌≡◌}
use native.Mathlib.Omega.{arith}
use native.Mathlib.Nat as NatL
use native.Mathlib.Decide.{dec_lt}
use lib.Dec.{leb, leb→le, le→leb}
use lib.IntN.{ℤ, pos, negsuc, nat_abs}
use lib.Signed.{le_z, le_z_yes}
use Rattle.std.specs.Prelude.{min}
use Rattle.std.proofs.lemmas.Grind.{div_ceil_times}
use Rattle.algebra.proofs.Integers.{le_to, to_le}
use Rattle.algebra.proofs.Tests.{bool_same}
use Rattle.model.specs.Earnings.{◌over◌}
use Rattle.model.specs.Tolerance.{thousandths, at_most, thousandths_up}
use Rattle.model.proofs.Thousandths.{up_at_most}
use Rattle.thousandths.specs.Rounding.{AmountFits}

-- The library's quotient that is rounded up is the model's.
pub ceil_is : (x b : ℕ) → 0 < b → x / b + min 1 (x % b) ≡ (x + (b - 1)) / b
ceil_is x b s =
    let c = x / b + min 1 (x % b) in
    let t = div_ceil_times x b s in
    let up : (x + (b - 1)) / b < suc c = (NatL.div-lt_iff_lt-mul {k = b} {x = x + (b - 1)} {y = suc c} s).1 (omega arith) in
    let down : (x + (b - 1)) / b < c → x + (b - 1) < c * b = (NatL.div-lt_iff_lt-mul {k = b} {x = x + (b - 1)} {y = c} s).0 in
    elim (dec_lt ((x + (b - 1)) / b) c) [
      | yes l ↦ absurd (omega (arith, down l))
      | no l ↦ omega arith
    ]

-- the rounded number is at most t exactly where the amount is at most t thousandths
pub within_is : (t : ℕ) (z : ℤ) (base : ℕ) → AmountFits z base → leb (thousandths_up (nat_abs z) base) t ≡ at_most (z over base) (thousandths t)
within_is t (negsuc n) base a = absurd (omega (arith, le_to (pos 0) (negsuc n) a.not_negative))
within_is t (pos n) base a =
    let up = up_at_most n base t a.size.some in
    bool_same (leb (thousandths_up n base) t) (le_z (pos (1000 * n)) (pos (base * t)))
    (λ h. (to_le (pos (1000 * n)) (pos (base * t)) (omega (arith, up.0 (leb→le (thousandths_up n base) t h)))).le)
    (λ h. le→leb (thousandths_up n base) t (up.1 (omega (arith, le_to (pos (1000 * n)) (pos (base * t)) (le_z_yes h)))))
