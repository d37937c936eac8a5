-- Sheets as wide as a plan file's weights.
use native.Mathlib.Omega.{arith}
use native.Mathlib.Nat.{le_refl}
use Rattle.model.specs.Plan.{weight_width, largest_denominator}
use Rattle.model.specs.PlanChecks.{files}
use Rattle.model.specs.Calls.SheetFromPlan.{Returns}
use Rattle.model.proofs.Call.{meant}
use Rattle.model.proofs.Calls.SheetFromPlan.{returns as returned}
use Rattle.to_sheet.proofs.sheet_from_plan.Goals as goal

pub returns : goal.returns
returns c =
    let a = c.args in
    let f = files a.game.now a.plan.now in
    let m = meant (Returns weight_width largest_denominator f a.out.now) c.make.ensures (returned weight_width largest_denominator (omega arith) (le_refl largest_denominator) f a.out.now) in
    record { equation = m.0; promise = m.1 }

pub make-requires : goal.make-requires
make-requires c = (omega arith, omega arith)
