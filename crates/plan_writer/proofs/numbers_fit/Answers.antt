-- Three tests, one after the other.
use Rattle.std.proofs.Common.{arith}
use Rattle.std.proofs.lemmas.Grind.{common_steps}
use Rattle.model.specs.Writing.{all_fit, plan_fields_fit}
use Rattle.plan_writer.proofs.numbers_fit.Goals as goal

pub returns-then-fits_width-2 : goal.returns-then-fits_width-2
unfolding plan_fields_fit all_fit
returns-then-fits_width-2 c = grind (arith, common_steps)

pub returns-else-fits_width-2 : goal.returns-else-fits_width-2
unfolding plan_fields_fit all_fit
returns-else-fits_width-2 c = grind (arith, common_steps)
