-- D1 and D2 go to the references; a refusal leaves them as they were.
use mathlib.Core.Path.{refl}
use Rattle.model.specs.Calls.PlanFields.{denominators_in}
use Rattle.checks.specs.Answers.{answered}
use Rattle.plans.specs.Answers.{counts_seen}
use Rattle.model.proofs.Exported.{exports}
use Rattle.exported_plan.proofs.plan_fields.Goals as goal

pub returns-in-Ok : goal.returns-in-Ok
returns-in-Ok c = exports (answered counts_seen) denominators_in _ c.plan_fields.ensures c.in-Ok.is refl refl

pub returns-in-Err : goal.returns-in-Err
returns-in-Err c = exports (answered counts_seen) denominators_in _ c.plan_fields.ensures c.in-Err.is c.number.ensures refl
