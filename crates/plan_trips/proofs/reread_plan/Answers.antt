-- What is written is read back.
use mathlib.Core.Path.{sym, ap, ◌∙◌}
use native.Mathlib.Omega.{arith}
use borrow.Author.Rules.{rules}
use lib.Seq.{length-take-le}
use Rattle.std.specs.Prelude.{Err}
use Rattle.plan_trips.proofs.Plans.{reread_written, reread_long, reread_misfit, longer_than_any}
use Rattle.plan_trips.proofs.reread_plan.Goals as goal
use Rattle.plan_trips.proofs.reread_plan.Goals.{In-Ok}

pub slice_bounds-file-end : goal.slice_bounds-file-end
slice_bounds-file-end c = omega (arith, (reread_written c.args.game.now _ _ _ c.args.out.now _ _ c.write.ensures c.in-Ok.is).0, c.write.auto)

pub slice_bounds-plan_fields-end : goal.slice_bounds-plan_fields-end
slice_bounds-plan_fields-end c = sym (length-take-le _ _ (slice_bounds-file-end (goal.at.slice_bounds-plan_fields-end c).In-Ok))

pub returns-in-Ok : goal.returns-in-Ok
returns-in-Ok c = c.plan_fields.ensures ∙ (reread_written _ _ _ _ _ _ _ c.write.ensures c.in-Ok.is).1

pub returns-in-Err-Room : goal.returns-in-Err-Room
returns-in-Err-Room c = c.plan_fields-in-Err-Room.ensures ∙ reread_long _ _ _ _ _ _ _ c.write.ensures (c.in-Err-Room.is ∙ ap Err c.in-Err-Room.field-0-is) longer_than_any

pub returns-in-Err : goal.returns-in-Err
returns-in-Err c = reread_misfit _ _ _ _ _ _ _ c.write.ensures c.in-Err.is (λ e. search (rules))
