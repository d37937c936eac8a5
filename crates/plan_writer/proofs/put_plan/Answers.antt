-- The header, and then the run of weights, are the file.
use Rattle.plan_writer.proofs.PlanFiles.{plan_filled}
use Rattle.plan_writer.proofs.put_plan.Goals as goal

pub returns : goal.returns
returns c =
    let a = c.args in
    plan_filled a.d1 a.d2 a.weights.now a.out.now (rw c.new-header.ensures at c.put.ensures) c.put_run.ensures
