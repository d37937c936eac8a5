-- Products of weights in range, and equal products of a weight and a payoff.
use Prim.Native.Nat.{ℕ, ◌*◌, ◌≤◌, ◌<◌}
use mathlib.Core.Path.{◌≡◌}
use native.Mathlib.Omega.{arith}
use native.Mathlib.Nat as NatL
use lib.IntN.{ℤ, pos, ◌*ℤ◌}

-- the product of two weights of 16 bits
pub two_weights : {a b : ℕ} → a < 65536 → b < 65536 → a * b ≤ 4294836225
two_weights {a} {b} h k =
    let u : a ≤ 65535 = omega arith in
    let v : b ≤ 65535 = omega arith in
    NatL.mul-le-mul u v

-- and of three
pub three_weights : {a b c : ℕ} → a < 65536 → b < 65536 → c < 65536 → a * b * c ≤ 281462092005375
three_weights {c = c} h k l =
    let v : c ≤ 65535 = omega arith in
    NatL.mul-le-mul (two_weights h k) v

-- a product of equal numbers
pub weighed_is : {r z p : ℤ} {w v : ℕ} → r ≡ pos w *ℤ z → w ≡ v → z ≡ p → r ≡ pos v *ℤ p
weighed_is e a b = rw (e, a, b)
