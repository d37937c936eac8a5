-- Two remainders make a sum that fits.
use Rattle.std.proofs.Common.{refl}
use Rattle.trials.specs.Checks.{taken_in_of}
use Rattle.trials.proofs.refusals.taken_in.Goals as goal

pub returns : goal.returns
unfolding taken_in_of
returns c = refl
