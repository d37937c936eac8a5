-- A denominator of 16 bits is the same as an i64; the difference fits.
use native.Mathlib.Omega.{arith}
use mir.Syntax.{w64}
use mir.Val.{to_z, of_z}
use mir.Facts.{to_z-of_z}
use mir.ValLaws.{to_z_pos}
use Rattle.judgement.proofs.Judgement.{difference_fits, gain_is}
use Rattle.judgement.proofs.gain.Goals as goal

pub overflow_sub-result : goal.overflow_sub-result
overflow_sub-result c =
    let a = c.args in
    difference_fits a.denominator a.best a.value c.requires (to_z w64 a.denominator) (to_z w64 (of_z w64 a.best)) (to_z w64 (of_z w64 a.value)) (to_z_pos w64 a.denominator (omega (arith, c.requires.denominator_fits))) (to_z-of_z c.ranges.best) (to_z-of_z c.ranges.value)

pub returns : goal.returns
returns c =
    let a = c.args in
    gain_is a.denominator a.best a.value c.requires (to_z w64 a.denominator) (to_z w64 (of_z w64 a.best)) (to_z w64 (of_z w64 a.value)) (to_z_pos w64 a.denominator (omega (arith, c.requires.denominator_fits))) (to_z-of_z c.ranges.best) (to_z-of_z c.ranges.value)
