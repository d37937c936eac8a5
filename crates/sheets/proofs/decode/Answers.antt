-- The run is read as it stands in the sheet.
use native.Mathlib.Omega.{arith}
use native.Mathlib.Nat as NatL
use Rattle.sheets.proofs.decode.Goals as goal

pub overflow_mul-width : goal.overflow_mul-width
overflow_mul-width c = record { fits = omega (arith, NatL.mul-le-mul c.requires.0 c.requires.1) }

pub read_run-requires : goal.read_run-requires
read_run-requires c =
    (c.requires.0, omega (arith, NatL.mul-le-mul c.requires.0 c.requires.1, NatL.mul-le-mul c.requires.0 c.requires.2), omega (arith, c.requires.3))

pub returns : goal.returns
returns c = c.read_run.ensures
