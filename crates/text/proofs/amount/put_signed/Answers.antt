-- The sign, where there is one, and then the digits.
use mathlib.Core.Path.{◌≡◌}
use mathlib.Core.List.{[], ◌∷◌, ◌++◌}
use lib.IntN.{nat_abs}
use mir.Facts.{to_z-of_z}
use Rattle.model.specs.Report.{decimal, signed_decimal}
use Rattle.text.proofs.Decimals.{signed_minus, signed_plain}
use Rattle.text.proofs.Puts.{room_first, room_then, put_then}
use Rattle.text.proofs.amount.put_signed.Goals as goal
use Rattle.text.proofs.amount.put_signed.Goals.{Else-negative, Then-negative}

-- a number below 0
minus : (c : Then-negative) → signed_decimal c.args.count ≡ (45 ∷ []) ++ decimal c.magnitude-size.result
minus c =
    let sized : c.magnitude-size.result ≡ nat_abs c.args.count = rw (to_z-of_z c.ranges.count) at c.magnitude-size.ensures in
    signed_minus c.args.count sized (rw (to_z-of_z c.ranges.count) at c.if-negative.true)

-- and any other
plain : (c : Else-negative) → signed_decimal c.args.count ≡ decimal c.magnitude-size.result
plain c =
    let sized : c.magnitude-size.result ≡ nat_abs c.args.count = rw (to_z-of_z c.ranges.count) at c.magnitude-size.ensures in
    signed_plain c.args.count sized (rw (to_z-of_z c.ranges.count) at c.if-negative.false)

pub put_text-digits-requires : goal.put_text-digits-requires
put_text-digits-requires c = room_first (45 ∷ []) (decimal c.magnitude-size.result) (rw (minus (goal.at.put_text-digits-requires c).Then-negative) at c.requires)

pub put_decimal-requires : goal.put_decimal-requires
put_decimal-requires c =
    room_then c.put_text-digits.ensures (decimal c.magnitude-size.result) (rw (minus (goal.at.put_decimal-requires c).Then-negative) at c.requires)

pub returns-then-negative : goal.returns-then-negative
returns-then-negative c =
    rw (minus (goal.at.returns-then-negative c).Then-negative) (put_then c.put_text-digits.ensures (rw (minus (goal.at.returns-then-negative c).Then-negative) at c.requires) c.put_decimal.ensures)

pub put_decimal-requires-2 : goal.put_decimal-requires-2
put_decimal-requires-2 c = rw (plain (goal.at.put_decimal-requires-2 c).Else-negative) at c.requires

pub returns : goal.returns
returns c = rw (plain (goal.at.returns c).Else-negative) c.put_decimal-2.ensures
