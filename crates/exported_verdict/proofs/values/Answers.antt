-- All numbers go to the references; a refusal leaves them as they were.
use mathlib.Core.Path.{refl}
use Rattle.std.proofs.Common.{rules}
use mir.Syntax.{w64}
use mir.Val.{SFits}
use mir.Facts.{to_z-of_z}
use Rattle.checks.specs.Answers.{answered}
use Rattle.verdict.specs.Answers.{values_seen}
use Rattle.model.specs.Exported.{same}
use Rattle.model.proofs.Exported.{exports_answer}
use Rattle.exported_verdict.proofs.Exports.{values_same}
use Rattle.exported_verdict.proofs.values.Goals as goal

pub returns-in-Ok : goal.returns-in-Ok
returns-in-Ok c =
    let v = c.in-Ok.values in
    let value1_fits : SFits w64 v.value1 = search rules in
    let value2_fits : SFits w64 v.value2 = search rules in
    let best1_fits : SFits w64 v.best1 = search rules in
    let best2_fits : SFits w64 v.best2 = search rules in
    exports_answer (answered values_seen) same _ c.values.ensures c.in-Ok.is refl (values_same (to_z-of_z value1_fits) (to_z-of_z value2_fits) (to_z-of_z best1_fits) (to_z-of_z best2_fits))

pub returns-in-Err : goal.returns-in-Err
returns-in-Err c = exports_answer (answered values_seen) same _ c.values.ensures c.in-Err.is c.number.ensures refl
