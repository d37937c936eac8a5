-- The two cases of the model's `twos_complement`, by the integer's sign.
use Prim.Native.Nat.{◌^◌, ◌<◌}
use mathlib.Core.Path.{◌≡◌, refl}
use native.Mathlib.Omega.{arith}
use lib.IntN.{ℤ, pos, negsuc}
use mir.Syntax.{w16}
use mir.Val.{SFits, of_z}
use mir.Facts.{to_z-of_z}
use Rattle.model.specs.Bits.{twos_complement}
use Rattle.bits.proofs.unsigned16.Goals as goal

-- the type's own bits are the model's
is_field : (z : ℤ) → SFits w16 z → (of_z w16 z ≡ twos_complement 16 z) × (of_z w16 z < 2 ^ 16)
unfolding twos_complement
is_field (pos n) f = (refl, omega (arith, f.sfits))
is_field (negsuc n) f = (refl, omega (arith, f.sfits))

pub returns : goal.returns
returns c = rw (c.from.ensures, c.cast_unsigned.ensures, to_z-of_z c.ranges.x) (is_field c.args.x c.ranges.x)
