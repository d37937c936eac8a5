-- `bits::read_bit` meets its contract. Past the end a byte of the model is 0, and so are its bits.
use Prim.Native.Nat.{suc, ◌-◌, ◌%◌}
use mathlib.Core.Path.{◌≡◌, ◌∙◌}
use native.Mathlib.Omega.{arith}
use native.Mathlib.Nat.{zero-div, zero-mod}
use lib.ListN.{get_or-eq_default}
use Rattle.model.specs.Bits.{bit}
use Rattle.bits.proofs.read_bit.Goals as goal

pub returns : goal.returns
unfolding bit
returns c =
    let place : 8 - suc (c.args.at % 8) ≡ 7 - c.args.at % 8 = omega arith in
    (c.digit.ensures ∙ rw (c.from.ensures, c.in-Some.ensures.lookup.3.1 0, place), omega arith)

pub returns-in_default : goal.returns-in_default
unfolding bit
returns-in_default c = (rw (get_or-eq_default c.args.bytes.now 0 c.in_default.ensures.lookup.3, zero-div, zero-mod), omega arith)
