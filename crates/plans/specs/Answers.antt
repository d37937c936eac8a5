-- What the calls give, as the model has it.
use Rattle.model.specs.Calls.CheckPlan as CheckPlan
use Rattle.model.specs.Calls.PlanFields as PlanFields
use Rattle.records.specs.declared.plan_file.Denominators.{Denominators}
use Rattle.plans.specs.declared.PlanCounts.{PlanCounts}

-- the check of a plan: D1 and D2
abbrev pub denominators_seen : Denominators → CheckPlan.Denominators
denominators_seen d = record { d1 = d.d1; d2 = d.d2 }

-- all weights of a plan: D1, D2 and how many weights there are
abbrev pub counts_seen : PlanCounts → PlanFields.PlanCounts
counts_seen c = record { d1 = c.d1; d2 = c.d2; count = c.count }
