-- An integer in range is the same in 16 bits.
use Prim.Native.Nat.{◌*◌, ◌^◌}
use native.Mathlib.Omega.{arith}
use lib.Dec.{T, ltb→lt}
use lib.IntN.{ℤ, pos, negsuc}
use mir.Syntax.{w16}
use mir.Val.{SFits}
use mir.Facts.{to_z-of_z}
use Rattle.model.specs.Writing.{fits_signed_of}
use Rattle.fitting.proofs.narrow.Goals as goal

in_range_lem : (z : ℤ) → T (fits_signed_of 16 z) → SFits w16 z
unfolding fits_signed_of
in_range_lem (pos n) t = record { sfits = omega (arith, ltb→lt (2 * n) (2 ^ 16) t) }
in_range_lem (negsuc n) t = record { sfits = omega (arith, ltb→lt (2 * n) (2 ^ 16) t) }

pub overflow_cast-result : goal.overflow_cast-result
overflow_cast-result c = rw (to_z-of_z c.ranges.x) (in_range_lem c.args.x c.requires)

pub returns : goal.returns
returns c = rw (to_z-of_z c.ranges.x) (to_z-of_z (in_range_lem c.args.x c.requires))
