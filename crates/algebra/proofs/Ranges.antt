-- The size of integers, of their sums, and the range of a signed width.
use Prim.Native.Nat.{ℕ, zero, suc, ◌+◌, ◌*◌, ◌^◌, ◌≤◌, ◌<◌}
use mathlib.Core.Path.{◌≡◌, refl, ap}
use mathlib.Core.Bool.{Bool, true, false}
use native.Mathlib.Omega.{arith}
use lib.IntN.{ℤ, pos, negsuc, neg_ℤ, ◌+ℤ◌, ◌-ℤ◌, ◌*ℤ◌, nat_abs}
use mir.Syntax.{Width}
use mir.Val.{SFits, hbits}
use Rattle.algebra.specs.Bounded.{sum_to, sum_where, total_to, max_through}
use Rattle.algebra.proofs.Integers.{up, down, add_is}
use Rattle.algebra.proofs.Searches.{max_through_met}
use Rattle.algebra.proofs.Totals.{only, count_cong, count_term}
use Rattle.algebra.proofs.Sums.{only_z}

-- the size is the parts' sum
abs_is : (z : ℤ) → nat_abs z ≡ up z + down z
abs_is (pos n) = omega arith
abs_is (negsuc n) = omega arith

-- the size of a difference of two numbers
abs_parts : (z : ℤ) (p n : ℕ) → up z + n ≡ p + down z → nat_abs z ≤ p + n
abs_parts (pos a) p n e = omega arith
abs_parts (negsuc a) p n e = omega arith

-- the size of a sum
pub abs_add : (x y : ℤ) → nat_abs (x +ℤ y) ≤ nat_abs x + nat_abs y
abs_add x y = omega (arith, abs_parts (x +ℤ y) (up x + up y) (down x + down y) (add_is x y), abs_is x, abs_is y)

-- the size of a negation
pub abs_neg : (z : ℤ) → nat_abs (neg_ℤ z) ≡ nat_abs z
abs_neg (pos zero) = refl
abs_neg (pos (suc n)) = refl
abs_neg (negsuc n) = refl

-- the size of a difference
pub abs_sub : (x y : ℤ) → nat_abs (x -ℤ y) ≤ nat_abs x + nat_abs y
abs_sub x y = omega (arith, abs_add x (neg_ℤ y), abs_neg y)

-- the size of a multiple
pub abs_scale : (w : ℕ) (z : ℤ) → nat_abs (pos w *ℤ z) ≡ w * nat_abs z
abs_scale w (pos a) = refl
abs_scale w (negsuc b) = abs_neg (pos (w * suc b))

-- the size of a sum of many
pub abs_sum : (n : ℕ) (f : ℕ → ℤ) → nat_abs (sum_to n f) ≤ total_to n (λ i. nat_abs (f i))
unfolding sum_to total_to
abs_sum zero f = omega arith
abs_sum (suc n) f = omega (arith, abs_sum n f, abs_add (sum_to n f) (f n))

-- the size under a test
abs_only : (b : Bool) (z : ℤ) → nat_abs (only_z b z) ≡ only b (nat_abs z)
abs_only true z = refl
abs_only false z = refl

-- the size of a sum over the numbers that pass
pub abs_where : (n : ℕ) (t : ℕ → Bool) (f : ℕ → ℤ) → nat_abs (sum_where n t f) ≤ total_to n (λ i. only (t i) (nat_abs (f i)))
unfolding sum_where
abs_where n t f =
    omega (arith, abs_sum n (λ i. only_z (t i) (f i)), count_cong n (λ i. nat_abs (only_z (t i) (f i))) (λ i. only (t i) (nat_abs (f i))) (λ i l. abs_only (t i) (f i)))

-- the size of the greatest
pub abs_max : (n : ℕ) (f : ℕ → ℤ) → nat_abs (max_through n f) ≤ total_to (suc n) (λ i. nat_abs (f i))
abs_max n f = let m = max_through_met n f in omega (arith, ap nat_abs m.2, count_term (suc n) (λ i. nat_abs (f i)) m.0 (omega arith))

-- an integer smaller than half a width's numbers is in its range
pub sfits_abs : (w : Width) (z : ℤ) → nat_abs z < 2 ^ hbits w → SFits w z
sfits_abs w (pos n) h = record { sfits = omega arith }
sfits_abs w (negsuc n) h = record { sfits = omega arith }
