-- The verdict goes to the references; a refusal leaves them as they were.
use mathlib.Core.Path.{refl}
use Rattle.std.proofs.Common.{rules}
use mir.Syntax.{w64}
use mir.Val.{SFits}
use mir.Facts.{to_z-of_z}
use Rattle.exported_verdict.proofs.Exports.{exports_verdict}
use Rattle.exported_verdict.proofs.verdict.Goals as goal

pub returns-in_default : goal.returns-in_default
returns-in_default c =
    let m = exports_verdict _ _ _ _ c.verdict.ensures.equation c.in-Ok.is refl (rw c.in_default.is refl) in
    record { equation = m.0; promise = m.1 }

pub returns-in-Some : goal.returns-in-Some
returns-in-Some c =
    let fits : SFits w64 c.in-Some.shown.gain = search rules in
    let m = exports_verdict _ _ _ _ c.verdict.ensures.equation c.in-Ok.is refl (rw (c.in-Some.is, to_z-of_z fits, c.number.ensures) refl) in
    record { equation = m.0; promise = m.1 }

pub returns-in-Err : goal.returns-in-Err
returns-in-Err c =
    let m = exports_verdict _ _ _ _ c.verdict.ensures.equation c.in-Err.is c.number-in-Err.ensures refl in
    record { equation = m.0; promise = m.1 }
