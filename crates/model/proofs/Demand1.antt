-- Demand 1: each call has its clause.
use Rattle.model.specs.Demand1.{Demand1}
use Rattle.model.proofs.Calls.CheckGame as CheckGame
use Rattle.model.proofs.Calls.SetEntry as SetEntry
use Rattle.model.proofs.Calls.NodeRecord as NodeRecord
use Rattle.model.proofs.Calls.OwnSequence as OwnSequence
use Rattle.model.proofs.Calls.GameFields as GameFields
use Rattle.model.proofs.Calls.CheckPlan as CheckPlan
use Rattle.model.proofs.Calls.PlanFields as PlanFields
use Rattle.model.proofs.Calls.PayoffTable as PayoffTable
use Rattle.model.proofs.Calls.Values as Values
use Rattle.model.proofs.Calls.Verdict as Verdict
use Rattle.model.proofs.Calls.Report as Report
use Rattle.model.proofs.Calls.RefusalLine as RefusalLine
use Rattle.model.proofs.Calls.WriteGame as WriteGame
use Rattle.model.proofs.Calls.WritePlan as WritePlan
use Rattle.model.proofs.Calls.RewriteGame as RewriteGame
use Rattle.model.proofs.Calls.RewritePlan as RewritePlan
use Rattle.model.proofs.Calls.RereadGame as RereadGame
use Rattle.model.proofs.Calls.RereadPlan as RereadPlan
use Rattle.model.proofs.Calls.PlanFromSheet as PlanFromSheet
use Rattle.model.proofs.Calls.SheetFromPlan as SheetFromPlan
use Rattle.model.proofs.Calls.Tolerance as Tolerance

pub demand1 : Demand1
demand1 = record {
  check_game = CheckGame.demand1;
  set_entry = SetEntry.demand1;
  node_record = NodeRecord.demand1;
  own_sequence = OwnSequence.demand1;
  game_fields = GameFields.demand1;
  check_plan = CheckPlan.demand1;
  plan_fields = PlanFields.demand1;
  payoff_rows = PayoffTable.rows_demand1;
  payoff_table = PayoffTable.columns_demand1;
  values = Values.demand1;
  verdict = Verdict.demand1;
  report = Report.demand1;
  refusal_line = RefusalLine.demand1;
  write_game = WriteGame.demand1;
  write_plan = WritePlan.demand1;
  rewrite_game = RewriteGame.demand1;
  rewrite_plan = RewritePlan.demand1;
  reread_game = RereadGame.demand1;
  reread_plan = RereadPlan.demand1;
  plan_from_sheet = PlanFromSheet.demand1;
  sheet_from_plan = SheetFromPlan.demand1;
  tolerates = Tolerance.demand1;
}
