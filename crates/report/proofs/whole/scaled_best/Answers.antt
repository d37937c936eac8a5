-- A denominator of 16 bits is the same as an i64, and the product fits.
use mathlib.Core.Path.{◌≡◌, ◌∙◌}
use native.Mathlib.Omega.{arith}
use lib.IntN.{pos, ◌*ℤ◌}
use mir.Syntax.{w64}
use mir.Val.{SFits, to_z, of_z}
use mir.Facts.{to_z-of_z}
use mir.ValLaws.{to_z_pos}
use Rattle.report.proofs.whole.scaled_best.Goals as goal
use Rattle.report.proofs.whole.scaled_best.Goals.{Start}

-- the product of both as they are read
product_is : (s : Start) → to_z w64 s.args.denominator *ℤ to_z w64 (of_z w64 s.args.best) ≡ pos s.args.denominator *ℤ s.args.best
product_is s = rw (to_z_pos w64 s.args.denominator (omega (arith, s.requires.0)), to_z-of_z s.ranges.best)

product_fits : (s : Start) → SFits w64 (to_z w64 s.args.denominator *ℤ to_z w64 (of_z w64 s.args.best))
product_fits s = rw (product_is s) s.requires.1

pub returns : goal.returns
returns c = to_z-of_z (product_fits c) ∙ product_is c

pub overflow_mul-result : goal.overflow_mul-result
overflow_mul-result c = product_fits c
