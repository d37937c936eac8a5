-- The number is below the width's power of 2.
use Rattle.fitting.proofs.fits_width.Goals as goal

pub returns : goal.returns
returns c = rw c.power.ensures
