-- The promises of play sheets hold.
use native.Mathlib.Omega.{arith}
use native.Mathlib.Nat.{le_refl}
use Rattle.model.specs.Plan.{weight_width, largest_denominator}
use Rattle.model.specs.PlanChecks.{files}
use Rattle.model.specs.SheetPromises.{Sheets}
use Rattle.model.specs.Calls.PlanFromSheet.{sheet_files}
use Rattle.model.proofs.SheetTrips.{sheet_trip, over_smallest_iff}
use Rattle.model.proofs.Calls.PlanFromSheet.{makes, makes_in}
use Rattle.model.proofs.Calls.SheetFromPlan.{returns, returns_in}

pub sheets : Sheets
sheets =
    let fits = le_refl largest_denominator in
    record {
      made = λ game sheet. makes weight_width largest_denominator fits (sheet_files game sheet);
      returned = λ game plan. returns weight_width largest_denominator (omega arith) fits (files game plan);
      over_smallest = over_smallest_iff;
      sheet_again = sheet_trip;
      made_in = λ game sheet. makes_in weight_width largest_denominator fits (sheet_files game sheet);
      returned_in = λ game plan. returns_in weight_width largest_denominator (omega arith) fits (files game plan);
    }
