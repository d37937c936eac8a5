-- What is left of the last byte is less than a byte, so its field can be read.
use mathlib.Core.Path.{ap}
use lib.Dec.{eqb}
use Rattle.sheets.proofs.filled.Goals as goal

pub returns : goal.returns
returns c = ap (λ k. eqb k 0) c.read_field.ensures.0
