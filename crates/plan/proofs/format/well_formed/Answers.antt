-- The header's tests and the filling's are the model's; the filling is less than a byte, so its field can be read.
use Prim.Native.Nat.{ℕ}
use mathlib.Core.Path.{ap, ◌∙◌}
use lib.Dec.{eqb}
use Rattle.checks.specs.declared.Refusal.TheVariants.{PlanForm}
use Rattle.checks.specs.Answers.{checked_of}
use Rattle.plan.proofs.FormatChecks.{well_formed_is}
use Rattle.plan.proofs.Refusals.{counted}
use Rattle.plan.proofs.format.well_formed.Goals as goal
use Rattle.plan.proofs.format.well_formed.Goals.{then-header_right, else-header_right}

pub returns : goal.returns
returns c g e =
    let at = c.weight_at-at.ensures in
    let right = c.header_right.ensures in
    let model = well_formed_is g c.args.plan.now c.weight_count.result (c.weight_count.ensures ∙ (counted e).all) c.read.result c.read.ensures in
    c.check.ensures
    ∙ ap (checked_of PlanForm) (elim c.if-header_right.branch [
      | then-header_right w ↦ rw (model, ← right, w.if-header_right.true) (w.check-is ∙ ap (λ (k : ℕ). eqb k 0) (rw at at w.read_field.ensures.0))
      | else-header_right w ↦ rw (model, ← right, w.if-header_right.false) (w.check-is ∙ w.if-header_right.false)
    ])
