-- Numbers in base ten: their digits one by one, and how many there are.
use Prim.Native.Nat.{ℕ, zero, suc, ◌+◌, ◌*◌, ◌/◌, ◌%◌, ◌^◌, ◌≤◌, ◌<◌}
use mathlib.Core.Path.{◌≡◌, ap}
use mathlib.Core.Bool.{Bool, true, false, cond}
use mathlib.Core.List.{[], ◌∷◌, ◌++◌}
use native.Mathlib.Omega.{arith}
use native.Mathlib.Nat as NatL
use native.Mathlib.Decide.{dec_lt}
use borrow.Author.Tests.{lt-ltb, le-ltb}
use lib.IntN.{ℤ, pos, nat_abs}
use lib.ListN.{length, length-append}
use lib.Signed.{lt_z}
use Rattle.model.specs.Report.{ascii, digits_in, decimal, signed_decimal}

-- more steps than there are digits change nothing
digits_enough : (s t n : ℕ) → n < s → n < t → digits_in s n ≡ digits_in t n
unfolding digits_in
digits_enough zero t n l m = absurd (omega arith)
digits_enough (suc s) zero n l m = absurd (omega arith)
digits_enough (suc s) (suc t) n l m =
    elim (dec_lt n 10) [
      | yes few ↦ rw (lt-ltb n 10 few)
      | no few ↦ rw (digits_enough s t (n / 10) (omega arith) (omega arith))
    ]

-- one digit
pub decimal_digit : (n : ℕ) → n < 10 → decimal n ≡ (48 + n) ∷ []
unfolding decimal digits_in
decimal_digit n l = rw (lt-ltb n 10 l, NatL.mod-eq_of_lt l)

-- the last digit apart
pub decimal_more : (n : ℕ) → 10 ≤ n → decimal n ≡ decimal (n / 10) ++ (48 + n % 10) ∷ []
unfolding decimal digits_in
decimal_more n l = rw (le-ltb n 10 l, digits_enough n (suc (n / 10)) (n / 10) (omega arith) (omega arith))

-- a number below 10 to the power k, k above 0, has at most k digits
pub decimal_length : (k n : ℕ) → n < 10 ^ suc k → length (decimal n) ≤ suc k
decimal_length zero n l = omega (arith, ap length (decimal_digit n l))
decimal_length (suc k) n l =
    elim (dec_lt n 10) [
      | yes few ↦ omega (arith, ap length (decimal_digit n few))
      | no few ↦
          let b : n < 10 ^ suc k * 10 = rw (NatL.pow-suc 10 (suc k)) at l in
          omega (arith, ap length (decimal_more n (omega arith)), length-append (decimal (n / 10)) ((48 + n % 10) ∷ []), decimal_length k (n / 10) (omega arith))
    ]

-- A signed number by its size.
module _ (z : ℤ) {size : ℕ} (sized : size ≡ nat_abs z) where
  -- below 0 the sign stands first
  pub signed_minus : lt_z z (pos 0) ≡ true → signed_decimal z ≡ (45 ∷ []) ++ decimal size
  unfolding signed_decimal ascii
  signed_minus t = rw (t, sized)

  -- else the digits stand alone
  pub signed_plain : lt_z z (pos 0) ≡ false → signed_decimal z ≡ decimal size
  unfolding signed_decimal
  signed_plain t = rw (t, sized)

-- with a sign there is at most one more
pub signed_length : (z : ℤ) (k : ℕ) → nat_abs z < 10 ^ suc k → length (signed_decimal z) ≤ 2 + k
unfolding signed_decimal ascii
signed_length z k l = omega (arith, length-append (cond (lt_z z (pos 0)) (ascii "-") []) (decimal (nat_abs z)), sign (lt_z z (pos 0)), decimal_length k (nat_abs z) l)
  where
    sign : (b : Bool) → length (cond b (ascii "-") []) ≤ 1
    sign true = omega arith
    sign false = omega arith
