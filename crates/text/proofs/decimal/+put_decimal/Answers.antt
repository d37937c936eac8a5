-- One digit is put as it is; of more, those before the last and then the last.
use Prim.Native.Nat.{◌+◌, ◌/◌, ◌%◌}
use mathlib.Core.List.{[], ◌∷◌}
use native.Mathlib.Omega.{arith}
use Rattle.model.specs.Report.{decimal}
use Rattle.text.proofs.Puts.{room_byte, room_first, room_then, put_then}
use Rattle.text.proofs.Decimals.{decimal_digit, decimal_more}
use Rattle.text.proofs.decimal.+put_decimal.Goals as goal

pub put_digit-requires : goal.put_digit-requires
put_digit-requires t c = (c.if-n-lt10.true, rw (decimal_digit c.args.n c.if-n-lt10.true) at c.requires)

pub returns-then-n-lt10 : goal.returns-then-n-lt10
returns-then-n-lt10 t c = rw (decimal_digit c.args.n c.if-n-lt10.true) c.put_digit.ensures

pub put_decimal-last-requires : goal.put_decimal-last-requires
put_decimal-last-requires t c =
    let n = c.args.n in
    (omega (arith, c.decreases), room_first (decimal (n / 10)) ((48 + n % 10) ∷ []) (rw (decimal_more n c.if-n-lt10.false) at c.requires))

pub put_digit-requires-2 : goal.put_digit-requires-2
put_digit-requires-2 t c =
    let n = c.args.n in
    (omega arith, room_byte (room_then c.put_decimal-last.ensures ((48 + n % 10) ∷ []) (rw (decimal_more n c.if-n-lt10.false) at c.requires)) _)

pub returns : goal.returns
returns t c =
    let n = c.args.n in
    let m = c.if-n-lt10.false in
    rw (decimal_more n m) (put_then c.put_decimal-last.ensures (rw (decimal_more n m) at c.requires) c.put_digit-2.ensures)
