-- 17 comes first, then 18; with room for the file it is written.
use Rattle.checks.proofs.AnswerLaws.{passed_on}
use Rattle.fitting.proofs.Refusals.{has_room}
use Rattle.plan_writer.proofs.PlanFiles.{plan_misfit, plan_short, plan_written}
use Rattle.plan_writer.proofs.write.Goals as goal

pub returns-in_err-check : goal.returns-in_err-check
returns-in_err-check c = let a = c.args in rw (passed_on c.from_residual.ensures.1) (plan_misfit a.d1 a.d2 a.weights.now a.out.now c.numbers_fit.ensures c.check.ensures c.in_err-check.was)

pub returns-in_err-has_room : goal.returns-in_err-has_room
returns-in_err-has_room c =
    let a = c.args in
    rw (passed_on c.from_residual-in_err-has_room.ensures.1) (plan_short a.d1 a.d2 a.weights.now a.out.now
    c.numbers_fit.ensures
    c.check.ensures
    c.in_ok-check.was
    c.file_bytes-size.ensures
    c.has_room.ensures
    c.in_err-has_room.was)

pub put_plan-requires : goal.put_plan-requires
put_plan-requires c = has_room c.file_bytes-size.ensures c.has_room.ensures c.in_ok-has_room.was

pub returns : goal.returns
returns c =
    let a = c.args in
    plan_written a.d1 a.d2 a.weights.now a.out.now
    c.numbers_fit.ensures
    c.check.ensures
    c.in_ok-check.was
    c.file_bytes-size.ensures
    c.has_room.ensures
    c.in_ok-has_room.was
    c.put_plan.ensures
