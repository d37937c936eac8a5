-- The length goes to the reference; a refusal leaves it as it was.
use mathlib.Core.Path.{refl}
use native.Mathlib.Omega.{arith}
use native.Mathlib.Nat.{le_refl}
use Rattle.model.specs.Plan.{weight_width, largest_denominator}
use Rattle.model.specs.PlanChecks.{files}
use Rattle.exported_sheets.proofs.Promises.{returned}
use Rattle.exported_sheets.proofs.sheet_from_plan.Goals as goal

pub returns-in-Ok : goal.returns-in-Ok
returns-in-Ok c =
    let a = c.args in
    let m = returned weight_width largest_denominator a.size.now a.out.now (omega arith) (le_refl largest_denominator) (files a.game.now a.plan.now) c.in-Ok.is c.sheet_from_plan.ensures.equation refl refl in
    record { equation = m.0; promise = m.1 }

pub returns-in-Err : goal.returns-in-Err
returns-in-Err c =
    let a = c.args in
    let m = returned weight_width largest_denominator a.size.now a.out.now (omega arith) (le_refl largest_denominator) (files a.game.now a.plan.now) c.in-Err.is c.sheet_from_plan.ensures.equation c.number.ensures refl in
    record { equation = m.0; promise = m.1 }
