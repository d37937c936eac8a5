-- The bytes that hold the header and the weights are those that the model asks for.
use mathlib.Core.Path.{ap, ◌∙◌}
use Rattle.checks.specs.declared.Refusal.TheVariants.{PlanLength}
use Rattle.checks.specs.Answers.{checked_of}
use Rattle.plan.proofs.FormatChecks.{length_right}
use Rattle.plan.proofs.Refusals.{counted}
use Rattle.plan.proofs.format.has_length.Goals as goal

pub returns : goal.returns
returns c g e = c.check.ensures ∙ ap (checked_of PlanLength) (length_right g _ _ (c.weight_count.ensures ∙ (counted e).all) c.file_bytes.ensures)
