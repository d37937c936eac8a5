-- The plan writer. Its clause of demand 1.
use Rattle.model.specs.Rules.{PlanFieldsFit}
use Rattle.model.specs.Calls.WritePlan.{rows, call}
use Rattle.model.specs.Demand1.{Clause}
use Rattle.model.proofs.Decisions.{no_fails}
use Rattle.model.proofs.Rules.{plan_fields_fit_iff}
use Rattle.model.proofs.Rows.{Decided, Any, decided_one}
use Rattle.model.proofs.Call.{clause}

-- 17
pub fit_decided : Decided Any rows PlanFieldsFit
unfolding rows
fit_decided = decided_one 17 _ tt (λ t k. plan_fields_fit_iff t) (λ t k. no_fails (plan_fields_fit_iff t))

pub demand1 : Clause call PlanFieldsFit
unfolding call
demand1 = clause call fit_decided
