-- How long an amount can be.
use Prim.Native.Nat.{ℕ, suc, ◌+◌, ◌^◌, ◌≤◌, ◌<◌}
use mathlib.Core.List.{◌++◌}
use native.Mathlib.Omega.{arith}
use lib.IntN.{ℤ, pos, negsuc, nat_abs}
use lib.ListN.{length, length-append}
use mir.Syntax.{w64}
use mir.Val.{SFits}
use Rattle.model.specs.Earnings.{◌over◌}
use Rattle.model.specs.Report.{ascii, decimal, signed_decimal, amount}
use Rattle.text.proofs.Decimals.{decimal_length, signed_length}

-- the size of an i64
pub size_few : (z : ℤ) → SFits w64 z → nat_abs z ≤ 2 ^ 63
size_few (pos n) f = omega (arith, f.sfits)
size_few (negsuc n) f = omega (arith, f.sfits)

-- a sign, the digits of the count, " of " and those of the base
pub amount_length : (count : ℤ) (base k m : ℕ) → nat_abs count < 10 ^ suc k → base < 10 ^ suc m → length (amount (count over base)) ≤ 7 + k + m
unfolding amount ascii
amount_length count base k m l b =
    let first = signed_decimal count in
    omega (arith, length-append (first ++ ascii " of ") (decimal base), length-append first (ascii " of "), signed_length count k l, decimal_length m base b)
