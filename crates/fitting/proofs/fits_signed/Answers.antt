-- The limits of 16 bits, by the integer's sign.
use Rattle.std.proofs.Common.{ℕ, ◌*◌, ◌^◌, ℤ, pos, negsuc, ◌&&◌, ltb, leb, ◌≡◌, refl, arith}
use mathlib.Core.Bool.{and-true}
use lib.Signed.{le_z}
use mir.Facts.{to_z-of_z}
use Rattle.std.proofs.lemmas.Bool.Decides.{nat_tests}
use Rattle.model.specs.Writing.{fits_signed_of}
use Rattle.fitting.proofs.fits_signed.Goals as goal

half_lem : (n : ℕ) → ltb (2 * n) (2 ^ 16) ≡ leb n 32767
half_lem n = grind (arith, nat_tests)

-- the least, and the greatest
in_range_lem : (z : ℤ) → fits_signed_of 16 z ≡ (le_z (negsuc 32767) z && le_z z (pos 32767))
unfolding fits_signed_of
in_range_lem (pos n) = half_lem n
in_range_lem (negsuc n) = rw and-true (half_lem n)

pub returns-then-x-ge-LEAST : goal.returns-then-x-ge-LEAST
returns-then-x-ge-LEAST c = rw (to_z-of_z c.ranges.x, in_range_lem c.args.x, rw (to_z-of_z c.ranges.x) at c.if-x-ge-LEAST.true) refl

pub returns-else-x-ge-LEAST : goal.returns-else-x-ge-LEAST
returns-else-x-ge-LEAST c = rw (to_z-of_z c.ranges.x, in_range_lem c.args.x, rw (to_z-of_z c.ranges.x) at c.if-x-ge-LEAST.false) refl
