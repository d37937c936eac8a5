-- Each join stays below its power of 2: the first of the bits before the rest, the second of a byte.
use mathlib.Core.Path.{◌≡◌}
use native.Mathlib.Omega.{arith}
use Rattle.bits.specs.Puts.{part_put_of}
use Rattle.bits.proofs.Puts.{part_fits}
use Rattle.bits.proofs.one_field.part_put.Goals as goal
use Rattle.bits.proofs.one_field.part_put.Goals.{After-join-2}

put : (c : After-join-2) → let a = c.args in c.join-2.result ≡ part_put_of a.byte a.at a.width a.number
unfolding part_put_of
put c = rw (c.join-2.ensures, c.join.ensures, c.power-2.ensures, c.from-2.ensures, c.power.ensures, c.from.ensures)

pub overflow_cast-result : goal.overflow_cast-result
overflow_cast-result c =
    let a = c.args in
    rw (put c) (record { fits = part_fits a.byte a.at a.width a.number (omega arith) (omega arith) })

pub returns : goal.returns
returns c = put c
