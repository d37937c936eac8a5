-- The length goes to the reference; a refusal leaves it as it was.
use mathlib.Core.Path.{refl}
use native.Mathlib.Nat.{le_refl}
use Rattle.model.specs.Plan.{weight_width, largest_denominator}
use Rattle.model.specs.Calls.PlanFromSheet.{sheet_files}
use Rattle.exported_sheets.proofs.Promises.{made}
use Rattle.exported_sheets.proofs.plan_from_sheet.Goals as goal

pub returns-in-Ok : goal.returns-in-Ok
returns-in-Ok c =
    let a = c.args in
    let m = made weight_width largest_denominator a.size.now a.out.now (le_refl largest_denominator) (sheet_files a.game.now a.sheet.now) c.in-Ok.is c.plan_from_sheet.ensures.equation refl refl in
    record { equation = m.0; promise = m.1 }

pub returns-in-Err : goal.returns-in-Err
returns-in-Err c =
    let a = c.args in
    let m = made weight_width largest_denominator a.size.now a.out.now (le_refl largest_denominator) (sheet_files a.game.now a.sheet.now) c.in-Err.is c.plan_from_sheet.ensures.equation c.number.ensures refl in
    record { equation = m.0; promise = m.1 }
