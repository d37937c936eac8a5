-- Sheets and denominators as wide as a plan file's.
use native.Mathlib.Nat.{le_refl}
use Rattle.model.specs.Plan.{weight_width, largest_denominator}
use Rattle.model.specs.Calls.PlanFromSheet.{sheet_files, Makes}
use Rattle.model.proofs.Call.{meant}
use Rattle.model.proofs.Calls.PlanFromSheet.{makes}
use Rattle.from_sheet.proofs.plan_from_sheet.Goals as goal

pub returns : goal.returns
returns c =
    let a = c.args in
    let f = sheet_files a.game.now a.sheet.now in
    let m = meant (Makes weight_width largest_denominator f a.out.now) c.make.ensures (makes weight_width largest_denominator (le_refl largest_denominator) f a.out.now) in
    record { equation = m.0; promise = m.1 }
